use native.Mathlib.Omega.{arith}
use mathlib.Core.Path.{◌∙◌}
use lib.Seq.{length-sets, length-take-le}
use Rattle.exec.proofs.Seen.{lent_words, window_ready, window_turned}
use Rattle.exec.proofs.in_frames.turn_in_window.Goals as goal

pub turn-requires : goal.turn-requires
turn-requires c =
    window_ready _ _ _ _ _ _ c.requires.under c.shown-k.ensures.value (lent_words c.args.m _ _ _ _ _ _ c.shown-k.ensures.value c.window-n.ensures.value c.requires.words_value c.store_record.ensures c.store_record-2.ensures)

pub returns : goal.returns
returns c = window_turned _ c.args.m _ _ _ _ _ _ _ _ _ _ _ c.shown-k.ensures.value c.window-n.ensures.value c.saturating_sub-most.ensures (lent_words c.args.m _ _ _ _ _ _ c.shown-k.ensures.value c.window-n.ensures.value c.requires.words_value c.store_record.ensures c.store_record-2.ensures) (c.turn.auto.frames ∙ length-take-le _ _ (rw (c.store_record-2.ensures, length-sets, c.store_record.ensures, length-sets, c.requires.words_value) (omega (arith, c.window-n.ensures.upper_bound)))) c.turn.ensures
