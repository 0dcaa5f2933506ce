-- One answer only has each of the paper's numbers, so a promise made through them fixes the answer. Assumes nothing.
use mathlib.Core.Path.{◌≡◌, refl}
use Rattle.std.specs.Prelude.{Result, Ok, Err}
use Rattle.text.specs.Identifier.{id_numbers}
use Rattle.text.specs.declared.event.IdRoom.{IdRoom}

pub id_unique : (a b : Result (Unit {0}) IdRoom) → id_numbers a ≡ id_numbers b → a ≡ b
id_unique (Ok u) (Ok v) e = refl
id_unique (Ok u) (Err j) e = cc
id_unique (Err i) (Ok v) e = cc
id_unique (Err i) (Err j) e = refl
