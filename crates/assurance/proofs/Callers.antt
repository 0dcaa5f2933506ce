-- What callers can rely on, by what the functions' own contracts tell. Assumes nothing.
use Prim.Native.Nat.{ℕ}
use mathlib.Core.Path.{◌≡◌, refl, sym, ap, ◌∙◌, subst}
use mathlib.Core.List.{List, [], ◌∷◌}
use native.Mathlib.Omega.{arith}
use lib.ListN.{get_or, drop}
use Rattle.runtime.specs.declared.CoreAdmissionProfile.{CoreAdmissionProfile}
use Rattle.image.specs.Records.{form1}
use Rattle.admission.specs.Verdict.{verdict_numbers, verdict}
use Rattle.exec.specs.Price.{unit}
use Rattle.exec.specs.Execute.{Executed, execution}
use Rattle.capi.specs.Boundary.{number_of, Crossing, crossed}
use Rattle.twins.specs.Twins.{NoRoom}
use Rattle.assurance.specs.Callers.{number_in, Reliable, profile_of, ExecuteOutcomeReliable, ExecutorReliable, KnitExecuteReliable, ValidateProgramAdmits, KnitValidateAdmits, ExecuteOutcomeSame, KnitExecuteSame}
use Rattle.assurance.proofs.Numbered.{Numbered, verdict_numbered}
use Rattle.assurance.proofs.Acceptance.{acceptance}
use Rattle.assurance.proofs.Reliable.{across, answer_reliable, across_reliable, number_across}

-- ---- in Rattle
pub execute_outcome_reliable : ExecuteOutcomeReliable
execute_outcome_reliable κs a r e told =
    subst (Reliable a.0.now a.1.0.max_call_depth a.1.0.fuel a.1.1.0.now a.1.1.1.0.now) (sym (ap (λ (o : Executed). o.answer) told))
    (answer_reliable a.0.now a.1.0.max_call_depth a.1.0.fuel a.1.1.0.now a.1.1.1.0.now)

pub executor_reliable : ExecutorReliable
executor_reliable κs a r e told =
    subst (Reliable a.1.0.now a.0.config.max_call_depth a.0.config.fuel a.1.1.0.now a.1.1.1.0.now) (sym (ap (λ (o : Executed). o.answer) told))
    (answer_reliable a.1.0.now a.0.config.max_call_depth a.0.config.fuel a.1.1.0.now a.1.1.1.0.now)

pub validate_program_admits : ValidateProgramAdmits
validate_program_admits κs a v e told admitted = sym told ∙ ap verdict_numbers admitted

-- two executions with the same image, depth limit and fuel that neither is refused for room, by what each answered
pub answers_same : (bytes image : List ℕ) (most depth limit fuel : ℕ) (frames regs frames' regs' : List ℕ) (x y : List ℕ) → image ≡ bytes → depth ≡ most → fuel ≡ limit
    → x ≡ (execution form1 unit bytes most limit frames regs).answer → y ≡ (execution form1 unit image depth fuel frames' regs').answer → NoRoom x → NoRoom y → y ≡ x
answers_same bytes image most depth limit fuel frames regs frames' regs' x y same-image same-depth same-fuel one other kept served =
    let two = other ∙ (λ i. (execution form1 unit (same-image i) (same-depth i) (same-fuel i) frames' regs').answer) in
    two ∙ acceptance.answers form1 bytes most limit frames regs frames' regs' (subst NoRoom one kept) (subst NoRoom two served) ∙ sym one

pub execute_outcome_same : ExecuteOutcomeSame
execute_outcome_same κs a r e κt b q f told also image fuel depth kept served =
    answers_same a.0.now b.0.now a.1.0.max_call_depth b.1.0.max_call_depth a.1.0.fuel b.1.0.fuel a.1.1.0.now a.1.1.1.0.now b.1.1.0.now b.1.1.1.0.now
    _ _ image depth fuel (ap (λ (o : Executed). o.answer) told) (ap (λ (o : Executed). o.answer) also) kept served

-- ---- over the C boundary
-- the number and the words are those of the answer, with its digest
told_across : (x : Executed) (c : Crossing) → c ≡ crossed x → c.number ∷ c.words ≡ across x.answer
unfolding crossed
told_across x c e = ap (λ (d : Crossing). d.number ∷ d.words) e

pub knit_execute_reliable : KnitExecuteReliable
knit_execute_reliable κs a n e told =
    let x : Executed = execution form1 unit a.0.now a.1.1.0 a.1.0 a.1.1.1.0.now a.1.1.1.1.0.now in
    subst (Reliable a.0.now a.1.1.0 a.1.0 a.1.1.1.0.now a.1.1.1.1.0.now) (sym (told_across x _ told))
    (across_reliable a.0.now a.1.1.0 a.1.0 a.1.1.1.0.now a.1.1.1.1.0.now)

-- a verdict's number is 0 only where nothing is wrong
fine : (answer : List ℕ) → Numbered 20 answer → number_of answer ≡ 0 → answer ≡ []
unfolding number_of
fine [] h e = refl
fine (n ∷ ns) h e = absurd (omega (arith, h.0))

pub knit_validate_admits : KnitValidateAdmits
knit_validate_admits κs a n e told admitted =
    let profile : CoreAdmissionProfile = profile_of a.1.0 a.1.1.0 a.1.1.1.0 a.1.1.1.1.0 a.1.1.1.1.1.0 in
    fine (verdict form1 a.0.now profile) (verdict_numbered form1 a.0.now profile) (sym told.0 ∙ admitted)

-- no refusal for room by the number alone
no_room : (bytes : List ℕ) (most fuel : ℕ) (fr rg : List ℕ) (n : ℕ) → n ≡ number_in (across (execution form1 unit bytes most fuel fr rg).answer) → NoRoom (n ∷ [])
    → NoRoom (execution form1 unit bytes most fuel fr rg).answer
no_room bytes most fuel fr rg n e h =
    let q : n ≡ number_in (execution form1 unit bytes most fuel fr rg).answer = e ∙ number_across bytes most fuel fr rg in
    record { frames = λ x. h.frames (q ∙ x); regs = λ x. h.regs (q ∙ x) }

pub knit_execute_same : KnitExecuteSame
knit_execute_same κs a n e κt b m f told also image fuel depth kept served =
    let bytes : List ℕ = a.0.now in
    let most : ℕ = a.1.1.0 in
    let limit : ℕ = a.1.0 in
    let frames : List ℕ = a.1.1.1.0.now in
    let regs : List ℕ = a.1.1.1.1.0.now in
    let frames' : List ℕ = b.1.1.1.0.now in
    let regs' : List ℕ = b.1.1.1.1.0.now in
    let one = told_across (execution form1 unit bytes most limit frames regs) _ told in
    let two = told_across (execution form1 unit bytes most limit frames' regs') _ (also ∙ (λ i. crossed (execution form1 unit (image i) (depth i) (fuel i) frames' regs'))) in
    let number : List ℕ → ℕ = λ l. get_or l 0 0 in
    let answers = acceptance.answers form1 bytes most limit frames regs frames' regs' (no_room bytes most limit frames regs n (ap number one) kept) (no_room bytes most limit frames' regs' m (ap number two) served) in
    let same = two ∙ ap across answers ∙ sym one in
    (ap number same, ap (drop 1) same)
