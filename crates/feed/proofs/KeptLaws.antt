-- What a feed keeps is kept.
use Rattle.std.proofs.Common.{ℕ, ◌≡◌, ◌<◌, Some, None, IfSome, List, ◌++◌, Option, length, ap, ◌∙◌, sym, subst, take, drop}
use Rattle.std.specs.Prelude.{slice_get}
use Rattle.std.proofs.Math.Seq.{take-length, drop-length}
use Rattle.std.proofs.lemmas.List.{append-nil}
use Rattle.feed.specs.declared.entry.Entry.{Entry}
use Rattle.feed.specs.declared.entry.Plain.{Plain}
use Rattle.feed.specs.declared.entry.Series.{Series}
use Rattle.feed.specs.Merged.{merged}
use Rattle.feed.specs.CountsTaken.{CountsTaken, AreInputs}
use Rattle.feed.specs.Kept.{IsFeed, IsEntry, NoneDue, due_from}
use Rattle.feed.proofs.DueLaws.{none_due-from}

-- a list that is written back as it was
pub written_back : (items new : List Series) (long : ℕ) → new ≡ items → length items ≡ long
    → take long (new ++ drop (length new) items) ≡ items
written_back items new long same l =
    ap (λ n. take long (n ++ drop (length n) items)) same ∙ ap (λ d. take long (items ++ d)) (drop-length items)
    ∙ ap (take long) (append-nil items)
    ∙ ap (λ k. take k items) (sym l) ∙ take-length items

feed-known : (plain : List Plain) (series : List Series) (known at line taken due : ℕ) (kept o : Option Entry)
    → IsFeed plain series known at line kept → NoneDue (merged plain series) taken due → IsEntry (merged plain series) taken o
    → IsFeed plain series taken due line o
feed-known plain series known at line taken due kept o f none next = record
    { gathered = f.gathered; none = none; next = next; room = f.room }

is_entry : (list : List Entry) (k : ℕ) (o : Option Entry) → slice_get list k ≡ o → IsEntry list k o
is_entry list k None h = tt
is_entry list k (Some e) h = h

-- the next entry is kept, and its cycle
pub feed-next : (plain p : List Plain) (series s written : List Series) (known at line taken due : ℕ) (counts : List ℕ)
    (kept o : Option Entry) → IsFeed plain series known at line kept → p ≡ plain → s ≡ series → written ≡ series
    → CountsTaken (merged p s) taken counts → (CountsTaken (merged p s) taken counts → slice_get (merged p s) taken ≡ o) → due ≡ due_from o
    → IsFeed plain written taken due line o
feed-next plain p series s written known at line taken due counts kept o f pe se we fit next is =
    let all : merged p s ≡ merged plain series = ap (λ q. merged q s) pe ∙ ap (merged plain) se in
    let entry : slice_get (merged plain series) taken ≡ o = ap (λ l. slice_get l taken) (sym all) ∙ next fit in
    subst (λ (w : List Series). IsFeed plain w taken due line o) (sym we)
    (subst (λ (n : ℕ). IsFeed plain series taken n line o) (sym is)
    (feed-known plain series known at line taken (due_from o) kept o f (none_due-from (merged plain series) taken o entry)
    (is_entry (merged plain series) taken o entry)))

-- an entry that is kept is of one of sixteen series
pub entry-series : (list : List Entry) (k : ℕ) (e : Entry) (kept : Option Entry) → AreInputs list → IsEntry list k kept → kept ≡ Some e
    → IfSome e.series (λ j. j < 16)
entry-series list k e kept inputs next is =
    let here : IsEntry list k (Some e) = subst (IsEntry list k) is next in
    inputs.sixteen k e here
