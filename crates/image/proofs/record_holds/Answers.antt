use mathlib.Core.List.{[], ◌∷◌}
use native.Mathlib.Omega.{arith}
use Rattle.image.specs.Fields.{forms, fields_of}
use Rattle.image.proofs.Forms.{span, reach, run, beyond}
use Rattle.image.proofs.record_holds.Goals as goal

pub returns-in_default : goal.returns-in_default
returns-in_default c = beyond _ (omega arith)

pub returns-in-4 : goal.returns-in-4
unfolding reach forms fields_of
returns-in-4 c = run _ (span 4 1) [] 3 65535 0 0 0 _ c.fields_within.ensures tt (omega arith)

pub returns-in-5 : goal.returns-in-5
unfolding reach forms fields_of
returns-in-5 c = run _ (span 5 1) [] 1 65535 0 0 0 _ c.fields_within-in-5.ensures tt (omega arith)

pub returns-in-51 : goal.returns-in-51
unfolding reach forms fields_of
returns-in-51 c = run _ (span 51 1) [] 0 0 0 0 4294967295 _ c.fields_within-in-51.ensures tt (omega arith)

pub returns-in-54 : goal.returns-in-54
unfolding reach forms fields_of
returns-in-54 c = run _ (span 54 1) [] 0 65535 65535 65535 65535 _ c.fields_within-in-54.ensures tt (omega arith)

pub returns-in-0-to-1 : goal.returns-in-0-to-1
unfolding reach forms fields_of
returns-in-0-to-1 c = run _ (span 0 2) [] 0 0 0 0 0 _ c.fields_within-in-0-to-1.ensures tt (omega arith)

pub returns-in-10-to-14 : goal.returns-in-10-to-14
unfolding reach forms fields_of
returns-in-10-to-14 c = run _ (span 10 5) (span 19 31 ∷ []) 0 65535 65535 65535 0 _ c.fields_within-in-10-to-14.ensures tt (grind arith)

pub returns-in-6-to-8 : goal.returns-in-6-to-8
unfolding reach forms fields_of
returns-in-6-to-8 c = run _ (span 6 3) (span 52 2 ∷ []) 0 65535 0 0 4294967295 _ c.fields_within-in-6-to-8.ensures tt (grind arith)

pub returns-in-9 : goal.returns-in-9
unfolding reach forms fields_of
returns-in-9 c = run _ (span 9 1) (span 15 4 ∷ span 50 1 ∷ []) 0 65535 65535 0 0 _ c.fields_within-in-9.ensures tt (grind arith)

pub returns-in-2-to-3 : goal.returns-in-2-to-3
unfolding reach forms fields_of
returns-in-2-to-3 c = run _ (span 2 2) (span 55 1 ∷ []) 0 65535 0 0 0 _ c.fields_within-in-2-to-3.ensures tt (grind arith)
