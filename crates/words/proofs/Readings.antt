-- What a fault has taken, after a beginning of the text was read.
use Rattle.std.proofs.Common.{◌≡◌, ℕ, ◌+◌, List, ◌++◌, length, ap, sym, ◌∙◌, arith, append_assoc, length-append}
use Rattle.words.specs.declared.text.ReadFault.{ReadFault}
use Rattle.words.specs.declared.text.ReadFault.TheVariants.{NoMemory, ReadFailed, TooLong}
use Rattle.words.specs.Readings.{FaultTakes}

taken_then : (a b c xs ys : List ℕ) → a ≡ xs ++ b → b ≡ ys ++ c → a ≡ (xs ++ ys) ++ c
taken_then a b c xs ys p q = p ∙ ap (λ (t : List ℕ). xs ++ t) q ∙ sym (append_assoc xs ys c)

pub fault_after : (e : ReadFault) (most room : ℕ) (a b c xs : List ℕ) → length xs + room ≡ most → a ≡ xs ++ b → FaultTakes e room b c
    → FaultTakes e most a c
fault_after NoMemory most room a b c xs h p q = record {
  bytes = xs ++ q.bytes;
  front = taken_then a b c xs q.bytes p q.front;
  most = omega (arith, q.most, length-append xs q.bytes);
}
fault_after ReadFailed most room a b c xs h p q = record {
  bytes = xs ++ q.bytes;
  front = taken_then a b c xs q.bytes p q.front;
  most = omega (arith, q.most, length-append xs q.bytes);
}
fault_after TooLong most room a b c xs h p q = record {
  bytes = xs ++ q.bytes;
  front = taken_then a b c xs q.bytes p q.front;
  count = omega (arith, q.count, length-append xs q.bytes);
}
