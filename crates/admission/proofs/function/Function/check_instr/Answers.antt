use mathlib.Core.List.{[], ◌∷◌}
use mathlib.Core.Path.{refl}
use native.Mathlib.Omega.{arith}
use Rattle.image.specs.Fields.{forms, fields_of, bare, two, three, jump, branch, call}
use Rattle.image.proofs.Forms.{span, takes, form_run, no_form}
use Rattle.admission.proofs.Operands.{in_bare, in_one, in_two, in_three, in_jump, in_branch, in_call}
use Rattle.admission.proofs.function.Function.check_instr.Goals as goal

pub returns-in_default : goal.returns-in_default
unfolding takes forms fields_of
returns-in_default c = in_bare _ _ _ c.args.self.exists c.args.self.is_read _ _ (form_run bare (span 0 2) [] c.args.i.op tt (omega arith)) refl

pub returns-in_default-2 : goal.returns-in_default-2
returns-in_default-2 c = in_bare _ _ _ c.args.self.exists c.args.self.is_read _ _ (no_form _ (omega arith)) refl

pub returns-in-2-to-8 : goal.returns-in-2-to-8
returns-in-2-to-8 c = in_one _ _ _ c.args.self.exists c.args.self.is_read _ _ (grind arith) c.check_register.ensures

pub returns-in-51 : goal.returns-in-51
unfolding takes forms fields_of
returns-in-51 c = in_jump _ _ _ c.args.self.exists c.args.self.is_read _ _ (form_run jump (span 51 1) [] c.args.i.op tt (grind arith)) c.check_target.ensures

pub returns-in-52-to-53 : goal.returns-in-52-to-53
unfolding takes forms fields_of
returns-in-52-to-53 c = in_branch _ _ _ c.args.self.exists c.args.self.is_read _ _ (form_run branch (span 52 2) [] c.args.i.op tt (grind arith)) c.check_branch.ensures

pub returns-in-54 : goal.returns-in-54
unfolding takes forms fields_of
returns-in-54 c = in_call _ _ _ c.args.self.exists c.args.self.is_read _ _ (form_run call (span 54 1) [] c.args.i.op tt (grind arith)) c.check_call.ensures

pub returns-in-10-to-14 : goal.returns-in-10-to-14
unfolding takes forms fields_of
returns-in-10-to-14 c = in_three _ _ _ c.args.self.exists c.args.self.is_read _ _ (form_run three (span 10 5) (span 19 31 ∷ []) c.args.i.op tt (grind arith)) c.check_three.ensures

pub returns-in-9 : goal.returns-in-9
unfolding takes forms fields_of
returns-in-9 c = in_two _ _ _ c.args.self.exists c.args.self.is_read _ _ (form_run two (span 9 1) (span 15 4 ∷ span 50 1 ∷ []) c.args.i.op tt (grind arith)) c.check_two.ensures
