-- What is written out of four contracts in specs/Walked is what their clauses say. Assumes nothing.
use mathlib.Core.Path.{◌≡◌, refl}
use seplogic.Ra.Ura.{Ura}
use base.Logic.{SProp}
use prog.Memory.{Memory}
use prog.Routine.{Routine}
use types.Logic.{Logic}
use contract.Monad.{Fun, fact}
use Rattle.runtime.specs.contracts.FuelMeter.consume as consume
use Rattle.lent.specs.contracts.record_at as record-at
use Rattle.lent.specs.contracts.put_record as put_record
use Rattle.exec.specs.contracts.in_frames.execute_outcome_in_frames as over-frames
use Rattle.firm.specs.Walked.{«tells·runtime::FuelMeter::consume», tells·lent::record_at, tells·lent::put_record, tells·exec::in_frames::execute_outcome_in_frames}

module _ {M : Type 1} {𝓤 : Ura M} (𝓛 : Logic 𝓤) (mem : Memory → SProp 𝓤) (run : Routine → Fun 𝓤) where
  pub «is·runtime::FuelMeter::consume» : (κs : _) (a : _) (g : _) (r : _) (e : _)
      → (consume.clauses 𝓛 mem run κs a).ensures g r e ≡ fact 𝓤 («tells·runtime::FuelMeter::consume» κs a r e)
  «is·runtime::FuelMeter::consume» κs a g r e = refl

  pub is·lent::record_at : (κs : _) (a : _) (g : _) (r : _) (e : _)
      → (record-at.clauses 𝓛 mem run κs a).ensures g r e ≡ fact 𝓤 (tells·lent::record_at κs a r e)
  is·lent::record_at κs a g r e = refl

  pub is·lent::put_record : (κs : _) (a : _) (g : _) (r : _) (e : _)
      → (put_record.clauses 𝓛 mem run κs a).ensures g r e ≡ fact 𝓤 (tells·lent::put_record κs a r e)
  is·lent::put_record κs a g r e = refl

  pub is·exec::in_frames::execute_outcome_in_frames : (κs : _) (a : _) (g : _) (r : _) (e : _)
      → (over-frames.clauses 𝓛 mem run κs a).ensures g r e ≡ fact 𝓤 (tells·exec::in_frames::execute_outcome_in_frames κs a r e)
  is·exec::in_frames::execute_outcome_in_frames κs a g r e = refl
