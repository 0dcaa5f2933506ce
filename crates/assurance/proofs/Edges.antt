-- Every row of the table holds, by computation. Assumes nothing.
use mathlib.Core.Path.{refl}
use Rattle.operate.specs.Opcodes.{rules, rule_of}
use Rattle.operate.specs.Operate.{read_as, read_two, read_dividing, read_shortcut, computed}
use Rattle.basis.specs.Answers.{first_of}
use Rattle.runtime.specs.Profile.{profile_fault}
use Rattle.basis.specs.Bytes.{byte_at, half_at, word_at}
use Rattle.image.specs.Fields.{forms, fields_of}
use Rattle.image.specs.Records.{header_of, function_at, form1_instr, start_of}
use Rattle.image.specs.Image.{layout_holds, row_fault, table_fault, within, record_holds, record_fault, image_fault}
use Rattle.image.specs.Program.{listed, function_of, decode}
use Rattle.admission.specs.Verdict.{register_fault, jump_fault, call_fault, window_fault, field_fault, fields_fault, instr_fault, returns_before, code_fault, function_fault, program_fault, verdict}
use Rattle.value.specs.Value.{value_at}
use Rattle.straight.specs.Flow.{flow_of}
use Rattle.straight.specs.Straight.{storing, asked, stored, done, straight}
use Rattle.exec.specs.Price.{unit}
use Rattle.exec.specs.Step.{too_deep, window_fits, pushed_frames, pushed_regs, called, handed, returned, left, acted, step}
use Rattle.exec.specs.Run.{run_for}
use Rattle.exec.specs.Execute.{value_in, made, entered, execution}
use Rattle.text.specs.Digits.{digits, width_within, width_of, decimal}
use Rattle.text.specs.Identifier.{identifier}
use Rattle.text.specs.Line.{fields, line_of, ran, printed}
use Rattle.assurance.specs.Edges.{Holds, Each, edges}

pub edges_hold : Each edges
unfolding Holds Each edges rules rule_of read_as read_two read_dividing read_shortcut computed first_of profile_fault forms fields_of register_fault jump_fault call_fault window_fault field_fault fields_fault instr_fault returns_before code_fault function_fault program_fault byte_at half_at word_at header_of function_at form1_instr start_of layout_holds row_fault table_fault within record_holds record_fault image_fault listed function_of decode verdict value_at flow_of storing asked stored done straight unit too_deep called handed returned left acted step run_for value_in entered execution window_fits pushed_frames pushed_regs made digits width_within width_of decimal identifier fields line_of ran printed
edges_hold = (refl, (refl, (refl, (refl, (refl, (refl, (refl, (refl, (refl, (refl, (refl, (refl, (refl, ((refl, refl), ((refl, refl), ((refl, refl), (refl, ((refl, refl), ((refl, refl), ((refl, refl), ((refl, refl), ((refl, refl), ((refl, refl), ((refl, (refl, refl)), ((refl, (refl, refl)), ((refl, (refl, refl)), ((refl, (refl, refl)), ((refl, (refl, refl)), ((refl, (refl, refl)), ((refl, (refl, refl)), ((refl, (refl, refl)), (refl, ((refl, refl), (refl, (refl, (refl, (refl, (refl, (refl, (refl, tt))))))))))))))))))))))))))))))))))))))))
