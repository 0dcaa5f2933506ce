-- Every public function of the engine, by its own contract: just one answer, and one content of what was lent, meets it. Assumes nothing.
use Prim.Native.Nat.{ℕ}
use mathlib.Core.Path.{refl, sym, ap, ◌∙◌}
use mathlib.Core.List.{List, [], ◌∷◌}
use lib.ListN.{get_or}
use Rattle.basis.proofs.There.{same_found}
use Rattle.runtime.proofs.Unique.{profile_unique, charge_unique}
use Rattle.quad.proofs.Bits.{quad_unique}
use Rattle.value.proofs.Words.{kind_unique}
use Rattle.image.proofs.Unique.{check_unique, referred, image_unique}
use Rattle.admission.proofs.Unique.{verdict_unique}
use Rattle.text.proofs.Unique.{id_unique}
use Rattle.straight.specs.Straight.{Local}
use Rattle.lent.specs.declared.FrameRecord.{FrameRecord}
use Rattle.lent.proofs.Words.{words_unique}
use Rattle.exec.specs.Step.{Found}
use Rattle.exec.specs.Execute.{Executed}
use Rattle.text.specs.Identifier.{Identified}
use Rattle.text.specs.Line.{Replied}
use Rattle.capi.specs.Boundary.{Crossing, Naming}
use Rattle.firm.specs.Walked.{«tells·runtime::FuelMeter::consume», tells·lent::record_at, tells·lent::put_record, tells·exec::in_frames::execute_outcome_in_frames}
use Rattle.basis.proofs.wrapping_mul_u64.Reads as basis::wrapping_mul_u64
use Rattle.basis.proofs.bytes.join2.Reads as «basis::bytes::join2»
use Rattle.basis.proofs.bytes.join4.Reads as «basis::bytes::join4»
use Rattle.basis.proofs.bytes.u8_at.Reads as basis::bytes::u8_at
use Rattle.basis.proofs.bytes.u16_at.Reads as basis::bytes::u16_at
use Rattle.basis.proofs.bytes.u32_at.Reads as basis::bytes::u32_at
use Rattle.runtime.proofs.CoreTrap.code.Reads as «runtime::CoreTrap::code»
use Rattle.runtime.proofs.CoreAdmissionProfile.safe.Reads as «runtime::CoreAdmissionProfile::safe»
use Rattle.runtime.proofs.CoreAdmissionProfile.validate.Reads as «runtime::CoreAdmissionProfile::validate»
use Rattle.runtime.proofs.ProfileField.number.Reads as «runtime::ProfileField::number»
use Rattle.runtime.proofs.FuelMeter.new.Reads as «runtime::FuelMeter::new»
use Rattle.runtime.proofs.FuelMeter.charge.Reads as «runtime::FuelMeter::charge»
use Rattle.runtime.proofs.FuelMeter.remaining.Reads as «runtime::FuelMeter::remaining»
use Rattle.runtime.proofs.FuelMeter.is_exhausted.Reads as runtime::FuelMeter::is_exhausted
use Rattle.quad.proofs.QuadState.bits.Reads as «quad::QuadState::bits»
use Rattle.quad.proofs.QuadState.from_bits.Reads as quad::QuadState::from_bits
use Rattle.quad.proofs.QuadState.is_null.Reads as quad::QuadState::is_null
use Rattle.quad.proofs.QuadState.is_known.Reads as quad::QuadState::is_known
use Rattle.quad.proofs.QuadState.is_conflict.Reads as quad::QuadState::is_conflict
use Rattle.quad.proofs.QuadState.inverse.Reads as «quad::QuadState::inverse»
use Rattle.quad.proofs.QuadState.join.Reads as «quad::QuadState::join»
use Rattle.quad.proofs.QuadState.meet.Reads as «quad::QuadState::meet»
use Rattle.value.proofs.checked.signed_of.Reads as value::checked::signed_of
use Rattle.value.proofs.checked.payload_of.Reads as value::checked::payload_of
use Rattle.value.proofs.checked.I32Checked.fit.Reads as «value::checked::I32Checked::fit»
use Rattle.value.proofs.checked.I32Checked.add_checked.Reads as value::checked::I32Checked::add_checked
use Rattle.value.proofs.checked.I32Checked.sub_checked.Reads as value::checked::I32Checked::sub_checked
use Rattle.value.proofs.checked.I32Checked.mul_checked.Reads as value::checked::I32Checked::mul_checked
use Rattle.value.proofs.checked.I32Checked.div_checked.Reads as value::checked::I32Checked::div_checked
use Rattle.value.proofs.checked.U32Checked.fit.Reads as «value::checked::U32Checked::fit»
use Rattle.value.proofs.checked.U32Checked.add_checked.Reads as value::checked::U32Checked::add_checked
use Rattle.value.proofs.checked.U32Checked.sub_checked.Reads as value::checked::U32Checked::sub_checked
use Rattle.value.proofs.checked.U32Checked.mul_checked.Reads as value::checked::U32Checked::mul_checked
use Rattle.value.proofs.checked.U32Checked.div_checked.Reads as value::checked::U32Checked::div_checked
use Rattle.value.proofs.digest.CoreResultDigest.from_result.Reads as value::digest::CoreResultDigest::from_result
use Rattle.value.proofs.digest.digest_words.Reads as value::digest::digest_words
use Rattle.value.proofs.fx.Fx.from_raw.Reads as value::fx::Fx::from_raw
use Rattle.value.proofs.fx.Fx.raw.Reads as «value::fx::Fx::raw»
use Rattle.value.proofs.fx.Fx.payload.Reads as «value::fx::Fx::payload»
use Rattle.value.proofs.fx.Fx.cmp.Reads as «value::fx::Fx::cmp»
use Rattle.value.proofs.fx.FxChecked.fit.Reads as «value::fx::FxChecked::fit»
use Rattle.value.proofs.fx.FxChecked.add_checked.Reads as value::fx::FxChecked::add_checked
use Rattle.value.proofs.fx.FxChecked.sub_checked.Reads as value::fx::FxChecked::sub_checked
use Rattle.value.proofs.fx.FxChecked.mul_checked.Reads as value::fx::FxChecked::mul_checked
use Rattle.value.proofs.fx.FxChecked.div_checked.Reads as value::fx::FxChecked::div_checked
use Rattle.value.proofs.result.CoreStatus.number.Reads as «value::result::CoreStatus::number»
use Rattle.value.proofs.result.CoreResult.returned.Reads as «value::result::CoreResult::returned»
use Rattle.value.proofs.result.CoreResult.trapped.Reads as «value::result::CoreResult::trapped»
use Rattle.value.proofs.word.Kind.number.Reads as «value::word::Kind::number»
use Rattle.value.proofs.word.CoreValue.kind.Reads as «value::word::CoreValue::kind»
use Rattle.value.proofs.word.CoreValue.payload.Reads as «value::word::CoreValue::payload»
use Rattle.value.proofs.word.CoreValue.to_word.Reads as value::word::CoreValue::to_word
use Rattle.value.proofs.word.CoreValue.from_word.Reads as value::word::CoreValue::from_word
use Rattle.image.proofs.check_image.Reads as image::check_image
use Rattle.image.proofs.ImageFault.numbers.Reads as «image::ImageFault::numbers»
use Rattle.image.proofs.record.header_of.Reads as image::record::header_of
use Rattle.image.proofs.record.function_at.Reads as image::record::function_at
use Rattle.image.proofs.record.instr_at.Reads as image::record::instr_at
use Rattle.image.proofs.program.Image.of.Reads as «image::program::Image::of»
use Rattle.image.proofs.program.Image.entry.Reads as «image::program::Image::entry»
use Rattle.image.proofs.program.Image.function_count.Reads as image::program::Image::function_count
use Rattle.image.proofs.program.Image.function.Reads as «image::program::Image::function»
use Rattle.image.proofs.program.Image.code_place.Reads as image::program::Image::code_place
use Rattle.image.proofs.program.Image.instr.Reads as «image::program::Image::instr»
use Rattle.admission.proofs.validate_program.Reads as admission::validate_program
use Rattle.admission.proofs.CoreValidationErrorFromCoreProfileError.from.Reads as «admission::CoreValidationErrorFromCoreProfileError::from»
use Rattle.admission.proofs.CoreValidationErrorFromImageFault.from.Reads as «admission::CoreValidationErrorFromImageFault::from»
use Rattle.operate.proofs.operate.Reads as «operate::operate»
use Rattle.operate.proofs.read.operand.Reads as «operate::read::operand»
use Rattle.operate.proofs.read.word.Reads as «operate::read::word»
use Rattle.straight.proofs.straight.Reads as «straight::straight»
use Rattle.exec.proofs.Refusal.numbers.Reads as «exec::Refusal::numbers»
use Rattle.exec.proofs.execute_outcome.Reads as exec::execute_outcome
use Rattle.exec.proofs.step_once.Reads as exec::step_once
use Rattle.exec.proofs.RefusalFromImageFault.from.Reads as «exec::RefusalFromImageFault::from»
use Rattle.exec.proofs.CoreExecutor.new.Reads as «exec::CoreExecutor::new»
use Rattle.exec.proofs.CoreExecutor.config.Reads as «exec::CoreExecutor::config»
use Rattle.exec.proofs.CoreExecutor.execute_outcome.Reads as exec::CoreExecutor::execute_outcome
use Rattle.exec.proofs.CoreExecutor.execute.Reads as «exec::CoreExecutor::execute»
use Rattle.exec.proofs.config.CoreConfigDefault.default.Reads as «exec::config::CoreConfigDefault::default»
use Rattle.exec.proofs.config.CoreConfig.engine_policy.Reads as exec::config::CoreConfig::engine_policy
use Rattle.exec.proofs.config.CoreConfig.with_engine_policy.Reads as exec::config::CoreConfig::with_engine_policy
use Rattle.text.proofs.event.event_id.Reads as text::event::event_id
use Rattle.text.proofs.line.reply.Reads as «text::line::reply»
use Rattle.capi.proofs.knit_validate.Reads as capi::knit_validate
use Rattle.capi.proofs.knit_execute.Reads as capi::knit_execute
use Rattle.capi.proofs.knit_digest.Reads as capi::knit_digest
use Rattle.capi.proofs.knit_event_id.Reads as capi::knit_event_id
use Rattle.firm.specs.Firm.{One, OneAnd, OneHeld, OneSeen, HeldOutcome, HeldExecution}
use Rattle.firm.proofs.Back.{outcome_unique, execution_unique}

-- ---- basis: bytes and wrapping products
pub one·basis::wrapping_mul_u64 : (κs : _) (a : _) → One (basis::wrapping_mul_u64.Learnt κs a)
one·basis::wrapping_mul_u64 κs a x y e f p q = p ∙ sym q

pub «one·basis::bytes::join2» : (κs : _) (a : _) → One («basis::bytes::join2».Learnt κs a)
«one·basis::bytes::join2» κs a x y e f p q = p ∙ sym q

pub «one·basis::bytes::join4» : (κs : _) (a : _) → One («basis::bytes::join4».Learnt κs a)
«one·basis::bytes::join4» κs a x y e f p q = p ∙ sym q

pub one·basis::bytes::u8_at : (κs : _) (a : _) → One (basis::bytes::u8_at.Learnt κs a)
one·basis::bytes::u8_at κs a x y e f p q = p ∙ sym q

pub one·basis::bytes::u16_at : (κs : _) (a : _) → One (basis::bytes::u16_at.Learnt κs a)
one·basis::bytes::u16_at κs a x y e f p q = p ∙ sym q

pub one·basis::bytes::u32_at : (κs : _) (a : _) → One (basis::bytes::u32_at.Learnt κs a)
one·basis::bytes::u32_at κs a x y e f p q = p ∙ sym q

-- ---- runtime: traps, profiles, the meter
pub «one·runtime::CoreTrap::code» : (κs : _) (a : _) → One («runtime::CoreTrap::code».Learnt κs a)
«one·runtime::CoreTrap::code» κs a x y e f p q = p ∙ sym q

pub «one·runtime::CoreAdmissionProfile::safe» : (κs : _) (a : _) → One («runtime::CoreAdmissionProfile::safe».Learnt κs a)
«one·runtime::CoreAdmissionProfile::safe» κs a x y e f p q = p ∙ sym q

pub «one·runtime::CoreAdmissionProfile::validate» : (κs : _) (a : _) → One («runtime::CoreAdmissionProfile::validate».Learnt κs a)
«one·runtime::CoreAdmissionProfile::validate» κs a x y e f p q = profile_unique x y (p ∙ sym q)

pub «one·runtime::ProfileField::number» : (κs : _) (a : _) → One («runtime::ProfileField::number».Learnt κs a)
«one·runtime::ProfileField::number» κs a x y e f p q = p ∙ sym q

pub «one·runtime::FuelMeter::new» : (κs : _) (a : _) → One («runtime::FuelMeter::new».Learnt κs a)
«one·runtime::FuelMeter::new» κs a x y e f p q = λ i. record { remaining = (p ∙ sym q) i }

pub «one·runtime::FuelMeter::charge» : (κs : _) (a : _) → One («runtime::FuelMeter::charge».Learnt κs a)
«one·runtime::FuelMeter::charge» κs a x y e f p q = λ i. record { meter = record { remaining = (p.1 ∙ sym q.1) i }; answer = charge_unique x.answer y.answer (p.0 ∙ sym q.0) i }

pub «one·runtime::FuelMeter::remaining» : (κs : _) (a : _) → One («runtime::FuelMeter::remaining».Learnt κs a)
«one·runtime::FuelMeter::remaining» κs a x y e f p q = p ∙ sym q

pub one·runtime::FuelMeter::is_exhausted : (κs : _) (a : _) → One (runtime::FuelMeter::is_exhausted.Learnt κs a)
one·runtime::FuelMeter::is_exhausted κs a x y e f p q = p ∙ sym q

-- ---- quad: quads
pub «one·quad::QuadState::bits» : (κs : _) (a : _) → One («quad::QuadState::bits».Learnt κs a)
«one·quad::QuadState::bits» κs a x y e f p q = p ∙ sym q

pub one·quad::QuadState::from_bits : (κs : _) (a : _) → One (quad::QuadState::from_bits.Learnt κs a)
one·quad::QuadState::from_bits κs a x y e f p q = p ∙ sym q

pub one·quad::QuadState::is_null : (κs : _) (a : _) → One (quad::QuadState::is_null.Learnt κs a)
one·quad::QuadState::is_null κs a x y e f p q = p ∙ sym q

pub one·quad::QuadState::is_known : (κs : _) (a : _) → One (quad::QuadState::is_known.Learnt κs a)
one·quad::QuadState::is_known κs a x y e f p q = p ∙ sym q

pub one·quad::QuadState::is_conflict : (κs : _) (a : _) → One (quad::QuadState::is_conflict.Learnt κs a)
one·quad::QuadState::is_conflict κs a x y e f p q = p ∙ sym q

pub «one·quad::QuadState::inverse» : (κs : _) (a : _) → One («quad::QuadState::inverse».Learnt κs a)
«one·quad::QuadState::inverse» κs a x y e f p q = quad_unique x y (p ∙ sym q)

pub «one·quad::QuadState::join» : (κs : _) (a : _) → One («quad::QuadState::join».Learnt κs a)
«one·quad::QuadState::join» κs a x y e f p q = quad_unique x y (p ∙ sym q)

pub «one·quad::QuadState::meet» : (κs : _) (a : _) → One («quad::QuadState::meet».Learnt κs a)
«one·quad::QuadState::meet» κs a x y e f p q = quad_unique x y (p ∙ sym q)

-- ---- value: numbers, values, results, digests
pub one·value::checked::signed_of : (κs : _) (a : _) → One (value::checked::signed_of.Learnt κs a)
one·value::checked::signed_of κs a x y e f p q = p ∙ sym q

pub one·value::checked::payload_of : (κs : _) (a : _) → One (value::checked::payload_of.Learnt κs a)
one·value::checked::payload_of κs a x y e f p q = p ∙ sym q

pub «one·value::checked::I32Checked::fit» : (κs : _) (a : _) → One («value::checked::I32Checked::fit».Learnt κs a)
«one·value::checked::I32Checked::fit» κs a x y e f p q = p ∙ sym q

pub one·value::checked::I32Checked::add_checked : (κs : _) (a : _) → One (value::checked::I32Checked::add_checked.Learnt κs a)
one·value::checked::I32Checked::add_checked κs a x y e f p q = p ∙ sym q

pub one·value::checked::I32Checked::sub_checked : (κs : _) (a : _) → One (value::checked::I32Checked::sub_checked.Learnt κs a)
one·value::checked::I32Checked::sub_checked κs a x y e f p q = p ∙ sym q

pub one·value::checked::I32Checked::mul_checked : (κs : _) (a : _) → One (value::checked::I32Checked::mul_checked.Learnt κs a)
one·value::checked::I32Checked::mul_checked κs a x y e f p q = p ∙ sym q

pub one·value::checked::I32Checked::div_checked : (κs : _) (a : _) → One (value::checked::I32Checked::div_checked.Learnt κs a)
one·value::checked::I32Checked::div_checked κs a x y e f p q = p ∙ sym q

pub «one·value::checked::U32Checked::fit» : (κs : _) (a : _) → One («value::checked::U32Checked::fit».Learnt κs a)
«one·value::checked::U32Checked::fit» κs a x y e f p q = p ∙ sym q

pub one·value::checked::U32Checked::add_checked : (κs : _) (a : _) → One (value::checked::U32Checked::add_checked.Learnt κs a)
one·value::checked::U32Checked::add_checked κs a x y e f p q = p ∙ sym q

pub one·value::checked::U32Checked::sub_checked : (κs : _) (a : _) → One (value::checked::U32Checked::sub_checked.Learnt κs a)
one·value::checked::U32Checked::sub_checked κs a x y e f p q = p ∙ sym q

pub one·value::checked::U32Checked::mul_checked : (κs : _) (a : _) → One (value::checked::U32Checked::mul_checked.Learnt κs a)
one·value::checked::U32Checked::mul_checked κs a x y e f p q = p ∙ sym q

pub one·value::checked::U32Checked::div_checked : (κs : _) (a : _) → One (value::checked::U32Checked::div_checked.Learnt κs a)
one·value::checked::U32Checked::div_checked κs a x y e f p q = p ∙ sym q

pub one·value::digest::CoreResultDigest::from_result : (κs : _) (a : _) → One (value::digest::CoreResultDigest::from_result.Learnt κs a)
one·value::digest::CoreResultDigest::from_result κs a x y e f p q = λ i. record { 0 = (p ∙ sym q) i }

pub one·value::digest::digest_words : (κs : _) (a : _) → One (value::digest::digest_words.Learnt κs a)
one·value::digest::digest_words κs a x y e f p q = p ∙ sym q

pub one·value::fx::Fx::from_raw : (κs : _) (a : _) → One (value::fx::Fx::from_raw.Learnt κs a)
one·value::fx::Fx::from_raw κs a x y e f p q = λ i. record { 0 = (p ∙ sym q) i }

pub «one·value::fx::Fx::raw» : (κs : _) (a : _) → One («value::fx::Fx::raw».Learnt κs a)
«one·value::fx::Fx::raw» κs a x y e f p q = p ∙ sym q

pub «one·value::fx::Fx::payload» : (κs : _) (a : _) → One («value::fx::Fx::payload».Learnt κs a)
«one·value::fx::Fx::payload» κs a x y e f p q = p ∙ sym q

pub «one·value::fx::Fx::cmp» : (κs : _) (a : _) → One («value::fx::Fx::cmp».Learnt κs a)
«one·value::fx::Fx::cmp» κs a x y e f p q = p ∙ sym q

pub «one·value::fx::FxChecked::fit» : (κs : _) (a : _) → One («value::fx::FxChecked::fit».Learnt κs a)
«one·value::fx::FxChecked::fit» κs a x y e f p q = p ∙ sym q

pub one·value::fx::FxChecked::add_checked : (κs : _) (a : _) → One (value::fx::FxChecked::add_checked.Learnt κs a)
one·value::fx::FxChecked::add_checked κs a x y e f p q = p ∙ sym q

pub one·value::fx::FxChecked::sub_checked : (κs : _) (a : _) → One (value::fx::FxChecked::sub_checked.Learnt κs a)
one·value::fx::FxChecked::sub_checked κs a x y e f p q = p ∙ sym q

pub one·value::fx::FxChecked::mul_checked : (κs : _) (a : _) → One (value::fx::FxChecked::mul_checked.Learnt κs a)
one·value::fx::FxChecked::mul_checked κs a x y e f p q = p ∙ sym q

pub one·value::fx::FxChecked::div_checked : (κs : _) (a : _) → One (value::fx::FxChecked::div_checked.Learnt κs a)
one·value::fx::FxChecked::div_checked κs a x y e f p q = p ∙ sym q

pub «one·value::result::CoreStatus::number» : (κs : _) (a : _) → One («value::result::CoreStatus::number».Learnt κs a)
«one·value::result::CoreStatus::number» κs a x y e f p q = p ∙ sym q

pub «one·value::result::CoreResult::returned» : (κs : _) (a : _) → One («value::result::CoreResult::returned».Learnt κs a)
«one·value::result::CoreResult::returned» κs a x y e f p q = p ∙ sym q

pub «one·value::result::CoreResult::trapped» : (κs : _) (a : _) → One («value::result::CoreResult::trapped».Learnt κs a)
«one·value::result::CoreResult::trapped» κs a x y e f p q = p ∙ sym q

pub «one·value::word::Kind::number» : (κs : _) (a : _) → One («value::word::Kind::number».Learnt κs a)
«one·value::word::Kind::number» κs a x y e f p q = p ∙ sym q

pub «one·value::word::CoreValue::kind» : (κs : _) (a : _) → One («value::word::CoreValue::kind».Learnt κs a)
«one·value::word::CoreValue::kind» κs a x y e f p q = kind_unique x y (p ∙ sym q)

pub «one·value::word::CoreValue::payload» : (κs : _) (a : _) → One («value::word::CoreValue::payload».Learnt κs a)
«one·value::word::CoreValue::payload» κs a x y e f p q = p ∙ sym q

pub one·value::word::CoreValue::to_word : (κs : _) (a : _) → One (value::word::CoreValue::to_word.Learnt κs a)
one·value::word::CoreValue::to_word κs a x y e f p q = p ∙ sym q

pub one·value::word::CoreValue::from_word : (κs : _) (a : _) → One (value::word::CoreValue::from_word.Learnt κs a)
one·value::word::CoreValue::from_word κs a x y e f p q = p ∙ sym q

-- ---- image: images
pub one·image::check_image : (κs : _) (a : _) → One (image::check_image.Learnt κs a)
one·image::check_image κs a x y e f p q = check_unique x y (p ∙ sym q)

pub «one·image::ImageFault::numbers» : (κs : _) (a : _) → One («image::ImageFault::numbers».Learnt κs a)
«one·image::ImageFault::numbers» κs a x y e f p q = ap (λ (l : List ℕ). (get_or l 0 0, get_or l 1 0)) (sym p ∙ q)

pub one·image::record::header_of : (κs : _) (a : _) → One (image::record::header_of.Learnt κs a)
one·image::record::header_of κs a x y e f p q = p ∙ sym q

pub one·image::record::function_at : (κs : _) (a : _) → One (image::record::function_at.Learnt κs a)
one·image::record::function_at κs a x y e f p q = p ∙ sym q

pub one·image::record::instr_at : (κs : _) (a : _) → One (image::record::instr_at.Learnt κs a)
one·image::record::instr_at κs a x y e f p q = p.0 ∙ sym q.0

pub «one·image::program::Image::of» : (κs : _) (a : _) → OneSeen referred («image::program::Image::of».Learnt κs a)
«one·image::program::Image::of» κs a x y e f p q = image_unique _ _ x y (p.0, p.1.0, p.1.1) (q.0, q.1.0, q.1.1)

pub «one·image::program::Image::entry» : (κs : _) (a : _) → One («image::program::Image::entry».Learnt κs a)
«one·image::program::Image::entry» κs a x y e f p q = p ∙ sym q

pub one·image::program::Image::function_count : (κs : _) (a : _) → One (image::program::Image::function_count.Learnt κs a)
one·image::program::Image::function_count κs a x y e f p q = p ∙ sym q

pub «one·image::program::Image::function» : (κs : _) (a : _) → One («image::program::Image::function».Learnt κs a)
«one·image::program::Image::function» κs a x y e f p q = same_found x y _ _ p q

pub one·image::program::Image::code_place : (κs : _) (a : _) → One (image::program::Image::code_place.Learnt κs a)
one·image::program::Image::code_place κs a x y e f p q = p ∙ sym q

pub «one·image::program::Image::instr» : (κs : _) (a : _) → One («image::program::Image::instr».Learnt κs a)
«one·image::program::Image::instr» κs a x y e f p q = same_found x y _ _ p.0 q.0

-- ---- admission: verdicts
pub one·admission::validate_program : (κs : _) (a : _) → One (admission::validate_program.Learnt κs a)
one·admission::validate_program κs a x y e f p q = verdict_unique x y (p ∙ sym q)

pub «one·admission::CoreValidationErrorFromCoreProfileError::from» : (κs : _) (a : _) → One («admission::CoreValidationErrorFromCoreProfileError::from».Learnt κs a)
«one·admission::CoreValidationErrorFromCoreProfileError::from» κs a x y e f p q = p ∙ sym q

pub «one·admission::CoreValidationErrorFromImageFault::from» : (κs : _) (a : _) → One («admission::CoreValidationErrorFromImageFault::from».Learnt κs a)
«one·admission::CoreValidationErrorFromImageFault::from» κs a x y e f p q = p ∙ sym q

-- ---- operate: operations
pub «one·operate::operate» : (κs : _) (a : _) → One («operate::operate».Learnt κs a)
«one·operate::operate» κs a x y e f p q = p ∙ sym q

pub «one·operate::read::operand» : (κs : _) (a : _) → One («operate::read::operand».Learnt κs a)
«one·operate::read::operand» κs a x y e f p q = p ∙ sym q

pub «one·operate::read::word» : (κs : _) (a : _) → One («operate::read::word».Learnt κs a)
«one·operate::read::word» κs a x y e f p q = p ∙ sym q

-- ---- straight: one instruction in one frame
pub «one·straight::straight» : (κs : _) (a : _) → OneAnd (λ e. e.1.0.now ∷ []) («straight::straight».Learnt κs a)
«one·straight::straight» κs a x y e f p q = let same = p ∙ sym q in (ap (λ (l : Local). l.went) same, ap (λ (l : Local). l.regs ∷ []) same)

-- ---- exec: configurations, steps, executions
pub «one·exec::Refusal::numbers» : (κs : _) (a : _) → One («exec::Refusal::numbers».Learnt κs a)
«one·exec::Refusal::numbers» κs a x y e f p q = ap (λ (l : List ℕ). (get_or l 0 0, get_or l 1 0)) (sym p ∙ q)

pub one·exec::execute_outcome : (κs : _) (a : _) → OneHeld HeldOutcome (λ e. e.1.1.0.now ∷ e.1.1.1.0.now ∷ []) (exec::execute_outcome.Learnt κs a)
one·exec::execute_outcome κs a x y e f h k p q = let same = p ∙ sym q in (outcome_unique x y h k (ap (λ (o : Executed). o.answer) same), ap (λ (o : Executed). o.frames ∷ o.regs ∷ []) same)

pub one·exec::step_once : (κs : _) (a : _) → OneAnd (λ e. e.1.1.0.now ∷ e.1.1.1.0.now ∷ []) (exec::step_once.Learnt κs a)
one·exec::step_once κs a x y e f p q = let same = p ∙ sym q in (ap (λ (o : Found). o.answer) same, ap (λ (o : Found). o.frames ∷ o.regs ∷ []) same)

pub «one·exec::RefusalFromImageFault::from» : (κs : _) (a : _) → One («exec::RefusalFromImageFault::from».Learnt κs a)
«one·exec::RefusalFromImageFault::from» κs a x y e f p q = p ∙ sym q

pub «one·exec::CoreExecutor::new» : (κs : _) (a : _) → One («exec::CoreExecutor::new».Learnt κs a)
«one·exec::CoreExecutor::new» κs a x y e f p q = λ i. record { config = (p ∙ sym q) i }

pub «one·exec::CoreExecutor::config» : (κs : _) (a : _) → One («exec::CoreExecutor::config».Learnt κs a)
«one·exec::CoreExecutor::config» κs a x y e f p q = p ∙ sym q

pub one·exec::CoreExecutor::execute_outcome : (κs : _) (a : _) → OneHeld HeldOutcome (λ e. e.1.1.0.now ∷ e.1.1.1.0.now ∷ []) (exec::CoreExecutor::execute_outcome.Learnt κs a)
one·exec::CoreExecutor::execute_outcome κs a x y e f h k p q = let same = p ∙ sym q in (outcome_unique x y h k (ap (λ (o : Executed). o.answer) same), ap (λ (o : Executed). o.frames ∷ o.regs ∷ []) same)

pub «one·exec::CoreExecutor::execute» : (κs : _) (a : _) → OneHeld HeldExecution (λ e. e.1.1.0.now ∷ e.1.1.1.0.now ∷ []) («exec::CoreExecutor::execute».Learnt κs a)
«one·exec::CoreExecutor::execute» κs a x y e f h k p q = let same = p ∙ sym q in (execution_unique x y h k (ap (λ (o : Executed). o.answer) same), ap (λ (o : Executed). o.frames ∷ o.regs ∷ []) same)

pub «one·exec::config::CoreConfigDefault::default» : (κs : _) (a : _) → One («exec::config::CoreConfigDefault::default».Learnt κs a)
«one·exec::config::CoreConfigDefault::default» κs a x y e f p q = p ∙ sym q

pub one·exec::config::CoreConfig::engine_policy : (κs : _) (a : _) → One (exec::config::CoreConfig::engine_policy.Learnt κs a)
one·exec::config::CoreConfig::engine_policy κs a x y e f p q = p ∙ sym q

pub one·exec::config::CoreConfig::with_engine_policy : (κs : _) (a : _) → One (exec::config::CoreConfig::with_engine_policy.Learnt κs a)
one·exec::config::CoreConfig::with_engine_policy κs a x y e f p q = p ∙ sym q

-- ---- the functions whose contracts specs/Walked has
pub «one·runtime::FuelMeter::consume» : (κs : _) (a : _) → OneAnd (λ e. e.0.now) («tells·runtime::FuelMeter::consume» κs a)
«one·runtime::FuelMeter::consume» κs a x y e f p q = (charge_unique x y (p.0 ∙ sym q.0), λ i. record { remaining = (p.1 ∙ sym q.1) i })

pub one·lent::record_at : (κs : _) (a : _) → One (tells·lent::record_at κs a)
one·lent::record_at κs a x y e f p q = p ∙ sym q

pub one·lent::put_record : (κs : _) (a : _) → OneAnd (λ e. e.0.now) (tells·lent::put_record κs a)
one·lent::put_record κs a x y e f p q = (refl, p ∙ sym q)

pub one·exec::in_frames::execute_outcome_in_frames : (κs : _) (a : _) → OneHeld {L = List FrameRecord × List ℕ} HeldOutcome (λ e. (e.1.1.0.now, e.1.1.1.0.now)) (tells·exec::in_frames::execute_outcome_in_frames κs a)
one·exec::in_frames::execute_outcome_in_frames κs a x y e f h k p q =
    let same = p ∙ sym q in
    (outcome_unique x y h k (ap (λ (o : Executed). o.answer) same), λ i. (words_unique _ _ (ap (λ (o : Executed). o.frames) same) i, ap (λ (o : Executed). o.regs) same i))

-- ---- text: identifiers and lines
pub one·text::event::event_id : (κs : _) (a : _) → OneAnd (λ e. e.1.1.0.now ∷ []) (text::event::event_id.Learnt κs a)
one·text::event::event_id κs a x y e f p q = let same = p ∙ sym q in (id_unique x y (ap (λ (i : Identified). i.answer) same), ap (λ (i : Identified). i.out ∷ []) same)

pub «one·text::line::reply» : (κs : _) (a : _) → OneAnd (λ e. e.1.1.1.1.0.now ∷ e.1.1.0.now ∷ e.1.1.1.0.now ∷ []) («text::line::reply».Learnt κs a)
«one·text::line::reply» κs a x y e f p q = let same = p.0 ∙ sym q.0 in (ap (λ (r : Replied). r.count) same, ap (λ (r : Replied). r.line ∷ r.frames ∷ r.regs ∷ []) same)

-- ---- capi: the C boundary
pub one·capi::knit_validate : (κs : _) (a : _) → OneAnd (λ e. e.1.1.1.1.1.1.0.now ∷ []) (capi::knit_validate.Learnt κs a)
one·capi::knit_validate κs a x y e f p q = (p.0 ∙ sym q.0, ap (λ (l : List ℕ). l ∷ []) (p.1 ∙ sym q.1))

pub one·capi::knit_execute : (κs : _) (a : _) → OneAnd (λ e. e.1.1.1.1.1.0.now ∷ e.1.1.1.0.now ∷ e.1.1.1.1.0.now ∷ []) (capi::knit_execute.Learnt κs a)
one·capi::knit_execute κs a x y e f p q = let same = p ∙ sym q in (ap (λ (c : Crossing). c.number) same, ap (λ (c : Crossing). c.words ∷ c.frames ∷ c.regs ∷ []) same)

pub one·capi::knit_digest : (κs : _) (a : _) → One (capi::knit_digest.Learnt κs a)
one·capi::knit_digest κs a x y e f p q = p ∙ sym q

pub one·capi::knit_event_id : (κs : _) (a : _) → OneAnd (λ e. e.1.1.1.0.now ∷ e.1.1.0.now ∷ []) (capi::knit_event_id.Learnt κs a)
one·capi::knit_event_id κs a x y e f p q = let same = p ∙ sym q in (ap (λ (n : Naming). n.number) same, ap (λ (n : Naming). n.words ∷ n.out ∷ []) same)
