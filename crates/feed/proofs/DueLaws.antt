-- What is due.
use Rattle.std.proofs.Common.{ℕ, zero, suc, ◌<◌, ◌≤◌, ◌≡◌, false, List, [], ◌∷◌, Option, Some, None, leb, refl, ap, ◌∙◌, sym, arith, inl}
use Rattle.std.proofs.Common.{inr}
use Rattle.std.specs.Prelude.{slice_get}
use Rattle.std.proofs.lemmas.Bool.Decides.{nat_tests}
use Rattle.feed.specs.declared.entry.Entry.{Entry}
use Rattle.feed.specs.Merged.{is_before, inserted, due, when_come}
use Rattle.feed.specs.Order.{NoneBefore, IsInOrder}
use Rattle.feed.specs.Added.{AddsLast, plain_on}
use Rattle.feed.specs.Kept.{NoneDue, due_from}
use Rattle.feed.specs.declared.input.Input.{Input}
use Rattle.feed.proofs.Sorting.{either_way, before-not}

isnt_le : (a b : ℕ) → b < a → leb a b ≡ false
isnt_le a b h = grind (arith, nat_tests)

not_come : (cycles : ℕ) (x : Entry) → cycles < x.cycle → when_come cycles (Some x) ≡ None
not_come cycles x h = rw (isnt_le x.cycle cycles h) refl

pub due-at : (list : List Entry) (k cycles : ℕ) (o : Option Entry) → slice_get list k ≡ o → due list k cycles ≡ when_come cycles o
unfolding due
due-at list k cycles o h = ap (when_come cycles) h

-- no entry is due below its cycle
pub none_due-some : (list : List Entry) (k : ℕ) (e : Entry) → slice_get list k ≡ Some e → NoneDue list k e.cycle
none_due-some list k e h = λ now b. due-at list k now (Some e) h ∙ not_come now e b

pub none_due-end : (list : List Entry) (k cycle : ℕ) → slice_get list k ≡ None → NoneDue list k cycle
none_due-end list k cycle h = λ now b. due-at list k now None h

-- an entry that is not before another is due no earlier
pub isnt_before_cycle : (x y : Entry) → is_before y x ≡ false → x.cycle ≤ y.cycle
unfolding is_before
isnt_before_cycle x y h = grind (arith, nat_tests)

none-come : (k cycles : ℕ) (x : Entry) (list : List Entry) → cycles < x.cycle → NoneBefore x list
    → when_come cycles (slice_get list k) ≡ None
none-come k cycles x [] h n = refl
none-come zero cycles x (y ∷ list) h n = not_come cycles y (let c = isnt_before_cycle x y n.0 in omega arith)
none-come (suc k) cycles x (y ∷ list) h n = none-come k cycles x list h n.1

none_before-on : (x y : Entry) (list : List Entry) → is_before y x ≡ false → NoneBefore y list → NoneBefore x list
none_before-on x y [] h n = tt
none_before-on x y (z ∷ list) h n = (before-not x y z h n.0, none_before-on x y list h n.1)

come-inserted : (e : Entry) (list : List Entry) (k cycles : ℕ) → IsInOrder list → cycles < e.cycle
    → when_come cycles (slice_get (inserted e list) k) ≡ when_come cycles (slice_get list k)
unfolding inserted
come-inserted e [] zero cycles o h = not_come cycles e h
come-inserted e [] (suc k) cycles o h = refl
come-inserted e (x ∷ list) zero cycles o h = elim (either_way (is_before x e)) [
  | inl is ↦ rw is refl
  | inr isnt ↦ rw isnt (not_come cycles e h ∙ sym (not_come cycles x (let c = isnt_before_cycle e x isnt in omega arith)))
]
come-inserted e (x ∷ list) (suc k) cycles o h = elim (either_way (is_before x e)) [
  | inl is ↦ rw is (come-inserted e list k cycles o.1 h)
  | inr isnt ↦
      let later = none_before-on e x list isnt o.0 in
      rw isnt (none-come k cycles e (x ∷ list) h (isnt, later) ∙ sym (none-come k cycles e list h later))
]

-- An entry above some cycles changes nothing that is due up to these.
pub due-inserted : (e : Entry) (list : List Entry) (k cycles : ℕ) → IsInOrder list → cycles < e.cycle
    → due (inserted e list) k cycles ≡ due list k cycles
unfolding due
due-inserted e list k cycles o h = come-inserted e list k cycles o h

-- An input that was added changes nothing that is due below its cycle.
pub due-adds : (old new : List Entry) (cycle : ℕ) (input : Input) (k cycles : ℕ) → AddsLast old cycle input new → IsInOrder old
    → cycles < cycle → due new k cycles ≡ due old k cycles
due-adds old new cycle input k cycles a order below =
    ap (λ l. due l k cycles) a.new_is ∙ due-inserted (plain_on a.line cycle input) old k cycles order below

pub none_due-zero : (list : List Entry) (k : ℕ) → NoneDue list k 0
none_due-zero list k = λ now b. absurd (omega arith)

pub none_due-from : (list : List Entry) (k : ℕ) (o : Option Entry) → slice_get list k ≡ o → NoneDue list k (due_from o)
none_due-from list k None h = none_due-end list k (due_from None) h
none_due-from list k (Some e) h = none_due-some list k e h
