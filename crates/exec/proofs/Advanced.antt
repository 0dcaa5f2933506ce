-- A turn in a window of the lent records is a turn of the machine that they are the records of. Assumes nothing.
use Prim.Native.Nat.{ℕ, ◌+◌, ◌*◌, ◌-◌, ◌≤◌, ◌<◌}
use mathlib.Core.Path.{◌≡◌, refl, sym, ap, ◌∙◌}
use mathlib.Core.List.{List}
use mathlib.Core.Logic.{◌≢◌}
use native.Mathlib.Omega.{arith}
use lib.ListN.{length, set, take, length-set}
use lib.Seq.{get_or-take, get_or-set_same, get_or-set_other, set-set, set-get_or}
use Rattle.std.specs.Prelude.{Result, Ok, Err}
use Rattle.image.specs.Records.{form1}
use Rattle.image.specs.Program.{Program, decode}
use Rattle.lent.specs.declared.FrameRecord.{FrameRecord}
use Rattle.lent.specs.Records.{no_record, record_at, words_of}
use Rattle.lent.proofs.Words.{function_word_lem, place_word_lem, dst_word_lem, first_word}
use Rattle.exec.specs.declared.Ending.{Ending}
use Rattle.exec.specs.declared.in_frames.Machine.{Machine}
use Rattle.exec.specs.Price.{unit}
use Rattle.exec.specs.Lent.{record_in, state}
use Rattle.exec.specs.Run.{later}
use Rattle.exec.specs.Burst.{Turned, turned, turn}
use Rattle.exec.specs.InFrames.{on_with, held, comes_to, Stands, Onward, shown, window_of, seen}
use Rattle.exec.proofs.Runs.{unit_fair}
use Rattle.exec.proofs.Keeps.{good_ready}
use Rattle.exec.proofs.Outer.{going, after_turn, run_turn, turn_fuel, turn_good, turn_less, after_later, turn_over, turn_on}
use Rattle.exec.proofs.Windows.{View, Both, ends, pushes, pops, turn_both}
use Rattle.exec.proofs.Seen.{shown_least, shown_two, window_size, seen_view, long}

-- ---- records among words
record_words_lem : (zs : List FrameRecord) (i : ℕ) → record_in (words_of zs) i ≡ record_at zs i
record_words_lem zs i = rw (function_word_lem zs i, place_word_lem zs i, dst_word_lem zs i, first_word zs i)

record_take : (xs : List ℕ) (n i : ℕ) → i < n → record_in xs i ≡ record_in (take (4 * n) xs) i
record_take xs n i h =
    sym (rw (get_or-take (4 * n) xs (4 * i) 0 (omega arith), get_or-take (4 * n) xs (4 * i + 1) 0 (omega arith), get_or-take (4 * n) xs (4 * i + 2) 0 (omega arith), get_or-take (4 * n) xs (4 * i + 3) 0 (omega arith)))

-- how deep a step leads
abbrev depth_of : Result ℕ Ending → ℕ
depth_of (Ok n) = n
depth_of (Err e) = 0

module _ (bytes : List ℕ) (m : Machine) (below : FrameRecord) (rg : List ℕ) (l : ℕ) (words rg' : List ℕ) where
  abbrev p : Program
  p = decode form1 bytes

  abbrev d : ℕ
  d = m.depth

  abbrev k : ℕ
  k = shown d

  abbrev size : ℕ
  size = window_of d m.records

  abbrev small : Turned
  small = turn p unit (m.most - (d - k)) m.left (state (words_of (seen m below)) rg k)

  -- the turn in the window came to this
  abbrev Came : Result ℕ Ending → Type 0
  Came x = turned l x (take (4 * size) words) rg' ≡ small

  module _ (frames : List FrameRecord) (s : Stands bytes m frames (length rg)) (found : below ≡ record_at frames (m.depth - 2)) where
    some : 1 ≤ d
    some = s.good.some

    abbrev zs : List FrameRecord
    zs = held m frames

    abbrev ws : List FrameRecord
    ws = seen m below

    abbrev whole : Turned
    whole = turn p unit m.most m.left (state (words_of zs) rg d)

    view : View zs ws d k
    view = seen_view bytes m frames (length rg) below s found

    both : Both zs ws d k whole small
    both = turn_both p unit unit_fair zs ws d k view m.most m.left rg (good_ready p (words_of zs) (length rg) d s.good)

    size_is : length ws ≡ size
    size_is = long bytes m frames (length rg) below s found

    -- the records of the window afterwards
    abbrev stored : FrameRecord
    stored = record_in words (k - 1)

    abbrev frames' : List FrameRecord
    frames' = set frames (d - 1) stored

    read : (vs : List FrameRecord) (i : ℕ) → i < size → take (4 * size) words ≡ words_of vs → record_in words i ≡ record_at vs i
    read vs i h e = record_take words size i h ∙ ap (λ (xs : List ℕ). record_in xs i) e ∙ record_words_lem vs i

    inside : k - 1 < size
    inside = omega (arith, shown_least d some, window_size d m.records some)

    lower : k - 1 - 1 < size
    lower = omega (arith, inside)

    kept : (r : FrameRecord) → record_at (set ws (k - 1) r) (k - 1) ≡ r
    kept r = get_or-set_same ws (k - 1) r no_record (omega (arith, size_is, inside))

    -- the running frame's record is stored twice as once
    once : (r : FrameRecord) → set zs (d - 1) r ≡ set frames (d - 1) r
    once r = set-set frames (d - 1) m.top r

    -- it ended
    ended_so : (e : Ending) → Came (Err e) → Both zs ws d k whole small → whole ≡ turned l (Err e) (words_of frames') rg'
    ended_so e c (ends n e₁ r rg₁ o u) =
        let z : turned l (Err e) (take (4 * size) words) rg' ≡ turned n (Err e₁) (words_of (set ws (k - 1) r)) rg₁ = c ∙ u in
        let is : stored ≡ r = read (set ws (k - 1) r) (k - 1) inside (ap (λ (t : Turned). t.frames) z) ∙ kept r in
        o ∙ sym (ap (λ (t : Turned). turned t.left t.answer (words_of (set zs (d - 1) r)) t.regs) z)
        ∙ ap (λ (f : List FrameRecord). turned l (Err e) (words_of f) rg') (once r ∙ ap (set frames (d - 1)) (sym is))
    ended_so e c (pushes n r q rg₁ h g o u) = absurd (going _ _ (sym (ap (λ (t : Turned). t.answer) (c ∙ u))))
    ended_so e c (pops n r rg₁ h o u) = absurd (going _ _ (sym (ap (λ (t : Turned). t.answer) (c ∙ u))))

    -- it goes on with j frames in the window, the last one's record at the top of them
    record Gone (j : ℕ) : Type 0 where
      pub some_left : 1 ≤ j
      pub in_window : j ≤ 3
      pub within : d - k + j ≤ length frames
      pub turn_is : whole ≡ turned l (Ok (d - k + j)) (words_of (set frames' (d - k + j - 1) (record_in words (j - 1)))) rg'

    -- the numbers after a Ret
    record Fewer (j : ℕ) : Type 0 where
      pub least : 1 ≤ j
      pub most : j ≤ 3
      pub last : j - 1 ≡ k - 1 - 1
      pub depth : d - k + j ≡ d - 1
      pub fits : d - 1 ≤ length frames
      pub window_apart : k - 1 - 1 ≢ k - 1
      pub frames_apart : d - 1 - 1 ≢ d - 1

    fewer : 1 < d → (j : ℕ) → j ≡ k - 1 → Fewer j
    fewer deep j e =
        let two : k ≡ 2 = shown_two d deep in
        let one : j ≡ 1 = rw two at e in
        let lent : d ≤ length frames = rw length-set at view.there in
        record {
          least = omega (arith, one);
          most = omega (arith, one);
          last = rw (one, two) refl;
          depth = rw (one, two) (omega arith);
          fits = omega arith;
          window_apart = rw two (λ e. omega arith);
          frames_apart = λ e. omega arith;
        }

    gone_so : (j : ℕ) → Came (Ok j) → Both zs ws d k whole small → Gone j
    gone_so j c (ends n e r rg₁ o u) = absurd (going _ _ (ap (λ (t : Turned). t.answer) (c ∙ u)))
    gone_so j c (pushes n r q rg₁ there here o u) =
        let z : turned l (Ok j) (take (4 * size) words) rg' ≡ turned n (Ok (k + 1)) (words_of (set (set ws (k - 1) r) k q)) rg₁ = c ∙ u in
        let j_is : j ≡ k + 1 = ap (λ (t : Turned). depth_of t.answer) z in
        let words_are : take (4 * size) words ≡ words_of (set (set ws (k - 1) r) k q) = ap (λ (t : Turned). t.frames) z in
        let is : stored ≡ r =
        read (set (set ws (k - 1) r) k q) (k - 1) inside words_are
        ∙ get_or-set_other (set ws (k - 1) r) k (k - 1) q no_record (λ e. omega (arith, shown_least d some)) ∙ kept r in
        let top_is : record_in words (j - 1) ≡ q =
        let last : j - 1 ≡ k = omega (arith, j_is) in
        rw last (read (set (set ws (k - 1) r) k q) k (omega (arith, size_is, here)) words_are ∙ get_or-set_same (set ws (k - 1) r) k q no_record (rw length-set here)) in
        let depth_is : d - k + j ≡ d + 1 = omega (arith, j_is, shown_least d some) in
        let index_is : d - k + j - 1 ≡ d = omega (arith, depth_is) in
        record {
          some_left = omega (arith, j_is);
          in_window = omega (arith, j_is, shown_least d some);
          within = let fits : d < length frames = rw length-set at there in rw depth_is (omega arith);
          turn_is =
              o ∙ sym (ap (λ (t : Turned). turned t.left (Ok (d + 1)) (words_of (set (set zs (d - 1) r) d q)) t.regs) z)
              ∙ rw (index_is, top_is, depth_is, is, once r);
        }
    gone_so j c (pops n r rg₁ deep o u) =
        let z : turned l (Ok j) (take (4 * size) words) rg' ≡ turned n (Ok (k - 1)) (words_of (set ws (k - 1) r)) rg₁ = c ∙ u in
        let words_are : take (4 * size) words ≡ words_of (set ws (k - 1) r) = ap (λ (t : Turned). t.frames) z in
        let is : stored ≡ r = read (set ws (k - 1) r) (k - 1) inside words_are ∙ kept r in
        let f : Fewer j = fewer deep j (ap (λ (t : Turned). depth_of t.answer) z) in
        let top_is : record_in words (j - 1) ≡ record_at frames' (d - 1 - 1) =
        rw f.last (read (set ws (k - 1) r) (k - 1 - 1) lower words_are
        ∙ get_or-set_other ws (k - 1) (k - 1 - 1) r no_record f.window_apart
        ∙ view.below deep
        ∙ get_or-set_other frames (d - 1) (d - 1 - 1) m.top no_record f.frames_apart
        ∙ sym (get_or-set_other frames (d - 1) (d - 1 - 1) stored no_record f.frames_apart)) in
        record {
          some_left = f.least;
          in_window = f.most;
          within = rw f.depth f.fits;
          turn_is =
              o ∙ sym (ap (λ (t : Turned). turned t.left (Ok (d - 1)) (words_of (set zs (d - 1) r)) t.regs) z)
              ∙ ap (λ (f : List FrameRecord). turned l (Ok (d - 1)) (words_of f) rg') (once r ∙ ap (set frames (d - 1)) (sym is) ∙ sym (set-get_or frames' (d - 1 - 1) no_record))
              ∙ rw (f.depth, top_is);
        }

    -- ---- what the run comes to stays the same
    spent : (x : Result ℕ Ending) (fr : List ℕ) → whole ≡ turned l x fr rg' → comes_to p (Ok m) frames rg ≡ after_turn p unit m.most m.fuel (turned l x fr rg')
    unfolding comes_to
    spent x fr e =
        ap (later (m.fuel - m.left)) (run_turn p unit unit_fair m.most m.left (words_of zs) rg d s.good ∙ ap (after_turn p unit m.most m.left) e)
        ∙ after_later p unit m.most m.fuel m.left l x fr rg' (turn_fuel p unit unit_fair m.most m.left (words_of zs) rg d s.good l x fr rg' (sym e)) s.fuel

    pub over_onward : (e : Ending) → Came (Err e) → Onward bytes m frames rg (Err (record { what = e; used = m.fuel - l })) frames' rg'
    unfolding comes_to
    over_onward e c = record {
      same = sym (spent (Err e) (words_of frames') (ended_so e c both) ∙ turn_over p unit m.most m.fuel l e (words_of frames') rg');
      fit = tt;
      less = tt;
    }

    pub on_onward : (j : ℕ) → Came (Ok j) → Onward bytes m frames rg (Ok (on_with m (d - k + j) l (record_in words (j - 1)))) frames' rg'
    unfolding comes_to
    on_onward j c =
        let g : Gone j = gone_so j c both in
        record {
          same = sym (spent (Ok (d - k + j)) _ g.turn_is ∙ turn_on p unit m.most m.fuel l (d - k + j) _ rg');
          fit = record {
            well_formed = s.well_formed;
            good = turn_good p unit unit_fair m.most m.left (words_of zs) rg d s.good l (d - k + j) _ rg' (sym g.turn_is);
            records = s.records ∙ sym (length-set frames (d - 1) stored);
            fuel = omega (arith, turn_fuel p unit unit_fair m.most m.left (words_of zs) rg d s.good l (Ok (d - k + j)) _ rg' (sym g.turn_is), s.fuel);
          };
          less = turn_less p unit unit_fair m.most m.left (words_of zs) rg d s.good l (d - k + j) _ rg' (sym g.turn_is);
        }

    -- the numbers of the machine that goes on
    pub on_size : (j : ℕ) → Came (Ok j) → (1 ≤ j) × (j ≤ 3) × (d - k + j ≤ m.records)
    on_size j c = let g : Gone j = gone_so j c both in (g.some_left, g.in_window, rw s.records g.within)

    pub over_fuel : (e : Ending) → Came (Err e) → l ≤ m.fuel
    over_fuel e c = omega (arith, turn_fuel p unit unit_fair m.most m.left (words_of zs) rg d s.good l (Err e) (words_of frames') rg' (sym (ended_so e c both)), s.fuel)
