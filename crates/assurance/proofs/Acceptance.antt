-- All that is signed for, by the theorems that show it. Assumes nothing.
use Rattle.admission.proofs.Agree.{admitted}
use Rattle.exec.specs.Price.{unit}
use Rattle.exec.proofs.Runs.{unit_fair}
use Rattle.course.proofs.Fuel as fuel
use Rattle.safety.proofs.Accepted.{accepted_safe}
use Rattle.safety.proofs.WellFormed.{value_returned}
use Rattle.room.proofs.Enough.{room_enough}
use Rattle.twins.proofs.Entries as twins
use Rattle.assurance.specs.Acceptance.{Acceptance}
use Rattle.assurance.proofs.Edges.{edges_hold}

pub acceptance : Acceptance
acceptance = record {
  accepts = admitted;
  safe = λ L bytes profile v most limit fr rg. accepted_safe L bytes profile v unit unit_fair most limit fr rg;
  fuelled = fuel.fuelled;
  roomy = λ p most limit fr rg e. room_enough p unit unit_fair most limit fr rg e;
  independent = λ p k m fr rg fr' rg' hf hr most limit. twins.independent p k m fr rg fr' rg' hf hr unit unit_fair most limit;
  refused = λ p k m fr rg fr' rg' hf hr most limit. twins.refused_up_to p k m fr rg fr' rg' hf hr unit unit_fair most limit;
  answers = λ L bytes most limit fr rg fr' rg'. twins.same_answer L bytes unit unit_fair most limit fr rg fr' rg';
  values = λ L bytes W most limit fr rg word. value_returned L bytes W unit unit_fair most limit fr rg word;
  worked = edges_hold;
}
