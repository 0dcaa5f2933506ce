-- What the contracts of four functions tell, for given arguments, of an answer and of the parameters at exit, written out. Of the others
-- the toolchain reads it off; proofs/Walked shows that what is written here is what the contract's own clause says.
use Rattle.std.specs.Prelude.{◌≡◌, set}
use contract.Lifetimes.{Lfts}
use denote.Triple.Entry.{Args, Res}
use denote.Triple.Clauses.{AtExit}
use Rattle.runtime.specs.Fuel.{charge_numbers, charge_fault, left}
use Rattle.image.specs.Records.{form1}
use Rattle.lent.specs.Records.{record_at, words_of}
use Rattle.exec.specs.Price.{unit}
use Rattle.exec.specs.Execute.{outcome_numbers, executed, execution}
use Rattle.runtime.specs.contracts.FuelMeter.consume as consume
use Rattle.lent.specs.contracts.record_at as record-at
use Rattle.lent.specs.contracts.put_record as put_record
use Rattle.exec.specs.contracts.in_frames.execute_outcome_in_frames as over-frames

abbrev pub «tells·runtime::FuelMeter::consume» : (κs : Lfts 1) (a : Args consume.signature κs) → Res consume.signature κs → AtExit consume.ended κs → Type 0
«tells·runtime::FuelMeter::consume» κs a r e =
    (charge_numbers r ≡ charge_fault a.0.now.remaining a.1.0) × (e.0.now.remaining ≡ left a.0.now.remaining a.1.0)

abbrev pub tells·lent::record_at : (κs : Lfts 1) (a : Args record-at.signature κs) → Res record-at.signature κs → AtExit record-at.ended κs → Type 0
tells·lent::record_at κs a r e = r ≡ record_at a.0.now a.1.0

abbrev pub tells·lent::put_record : (κs : Lfts 1) (a : Args put_record.signature κs) → Res put_record.signature κs → AtExit put_record.ended κs → Type 0
tells·lent::put_record κs a r e = e.0.now ≡ set a.0.now a.1.0 a.1.1.0

abbrev pub tells·exec::in_frames::execute_outcome_in_frames : (κs : Lfts 3) (a : Args over-frames.signature κs) → Res over-frames.signature κs → AtExit over-frames.ended κs → Type 0
tells·exec::in_frames::execute_outcome_in_frames κs a r e =
    executed (outcome_numbers r) (words_of e.1.1.0.now) e.1.1.1.0.now
    ≡ execution form1 unit a.0.now a.1.0.max_call_depth a.1.0.fuel (words_of a.1.1.0.now) a.1.1.1.0.now
