use Rattle.std.proofs.Common.{Err, refl}
use Rattle.rope.specs.declared.fault.RopeFault.TheVariants as rope
use Rattle.workshop.proofs.holed_words.show_with_holes.Goals as goal

pub returns-in_default : goal.returns-in_default
returns-in_default g c = record {
  read = Err rope.NoMemory;
  reads = record { bytes = λ told. refl; failures = refl };
  next = (refl, refl);
}

pub returns-in_default-copied : goal.returns-in_default-copied
returns-in_default-copied g c = record {
  read = Err rope.NoMemory;
  reads = record { bytes = λ told. refl; failures = refl };
  next = (refl, refl);
}
