-- The two forms of frame records, by what the functions' own contracts tell. Assumes nothing.
use Prim.Native.Nat.{ℕ}
use mathlib.Core.Path.{◌≡◌, sym, ap, ◌∙◌, subst}
use mathlib.Core.List.{List}
use Rattle.image.specs.Records.{form1}
use Rattle.lent.specs.Records.{words_of, records_of}
use Rattle.lent.proofs.Words.{records_words}
use Rattle.exec.specs.Price.{unit}
use Rattle.exec.specs.Execute.{outcome_numbers, Executed, executed, execution}
use Rattle.twins.proofs.Leftover.{same_records}
use Rattle.assurance.specs.Callers.{Reliable, InFramesReliable, InFramesIndependent, InFramesSame}
use Rattle.assurance.proofs.Reliable.{answer_reliable}
use Rattle.assurance.proofs.Callers.{answers_same}

pub in_frames_reliable : InFramesReliable
in_frames_reliable κs a r e told =
    subst (Reliable a.0.now a.1.0.max_call_depth a.1.0.fuel (words_of a.1.1.0.now) a.1.1.1.0.now) (sym (ap (λ (o : Executed). o.answer) told))
    (answer_reliable a.0.now a.1.0.max_call_depth a.1.0.fuel (words_of a.1.1.0.now) a.1.1.1.0.now)

pub in_frames_independent : InFramesIndependent
in_frames_independent κs a r e κt b q f told also image fuel depth kept served =
    answers_same a.0.now b.0.now a.1.0.max_call_depth b.1.0.max_call_depth a.1.0.fuel b.1.0.fuel (words_of a.1.1.0.now) a.1.1.1.0.now (words_of b.1.1.0.now) b.1.1.1.0.now
    _ _ image depth fuel (ap (λ (o : Executed). o.answer) told) (ap (λ (o : Executed). o.answer) also) kept served

-- the execution over the records that some words hold, beside the one over the words
pub in_frames_same : InFramesSame
in_frames_same κs a r e κt b q f told also image fuel depth frames regs =
    let bytes : List ℕ = a.0.now in
    let most : ℕ = a.1.0.max_call_depth in
    let limit : ℕ = a.1.0.fuel in
    let fr : List ℕ = a.1.1.0.now in
    let rg : List ℕ = a.1.1.1.0.now in
    let o : Executed = execution form1 unit bytes most limit fr rg in
    let w : Executed = execution form1 unit bytes most limit (words_of (records_of fr)) rg in
    let alike = same_records form1 unit bytes most limit fr rg in
    let there : executed (outcome_numbers q) (words_of f.1.1.0.now) f.1.1.1.0.now ≡ w = also ∙ (λ i. execution form1 unit (image i) (depth i) (fuel i) (words_of (frames i)) (regs i)) in (
      ap (λ (x : Executed). x.answer) there ∙ sym alike.0 ∙ sym (ap (λ (x : Executed). x.answer) told),
      sym (records_words f.1.1.0.now) ∙ ap (λ (x : Executed). records_of x.frames) there ∙ sym alike.2 ∙ sym (ap (λ (x : Executed). records_of x.frames) told),
      ap (λ (x : Executed). x.regs) there ∙ sym alike.1 ∙ sym (ap (λ (x : Executed). x.regs) told),
    )
