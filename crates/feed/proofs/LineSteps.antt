-- The lines of a feed, one after another.
use Rattle.std.proofs.Common.{◌≡◌, ℕ, ◌+◌, ◌<◌, false, List, [], ◌∷◌, ◌++◌, length, Option, None, refl, sym, ap, ◌∙◌, arith, subst}
use Rattle.std.specs.List.{insert}
use Rattle.std.proofs.lemmas.Bool.{ltb-false}
use Rattle.std.specs.Option.{option_or}
use Rattle.std.proofs.lemmas.List.{append_assoc, append-nil, length-append}
use Rattle.feed.proofs.Numbered.{pushed}
use Rattle.feed.specs.Added.{LinesBelow}
use Rattle.feed.specs.Feed.{most_inputs, is_late, plain_in, series_in, plain_from, series_from, fault_after, first_fault}
use Rattle.feed.specs.Heads.{IsRule}
use Rattle.feed.specs.Kept.{AreGathered}
use Rattle.feed.specs.Merged.{merged, in_order, entries_from}
use Rattle.feed.specs.Order.{IsAmong}
use Rattle.feed.specs.declared.entry.Entry.{Entry}
use Rattle.feed.specs.declared.entry.Plain.{Plain}
use Rattle.feed.specs.declared.entry.Series.{Series}
use Rattle.feed.specs.declared.fault.FeedFault.{FeedFault}
use Rattle.feed.specs.declared.input.Input.{Input}
use Rattle.feed.specs.declared.statement.Statement.{Statement}
use Rattle.feed.proofs.AddLaws.{gathered-more, place-last}
use Rattle.feed.proofs.GrowLaws.{no-sources, sources-more, lines-more}

-- the first fault of lines from this number on, where those before them give these inputs
abbrev pub first_from : List Plain → List Series → ℕ → List Statement → Option FeedFault
first_from plain series number [] = None
first_from plain series number (line ∷ after) =
    option_or (fault_after plain series number line)
    (first_from (plain ++ plain_in number line) (series ++ series_in number line) (number + 1) after)

-- the plain inputs of one line more
plain_from-push : (line number : ℕ) (before : List Statement) (said : Statement) → line + length before ≡ number
    → plain_from line (before ++ said ∷ []) ≡ plain_from line before ++ plain_in number said
unfolding plain_from
plain_from-push line number before said at = pushed plain_in plain_from (λ n. refl) (λ n x xs. refl) line number before said at

-- the series of one line more
series_from-push : (line number : ℕ) (before : List Statement) (said : Statement) → line + length before ≡ number
    → series_from line (before ++ said ∷ []) ≡ series_from line before ++ series_in number said
unfolding series_from
series_from-push line number before said at = pushed series_in series_from (λ n. refl) (λ n x xs. refl) line number before said at

first_fault-from : (before after : List Statement)
    → first_fault before after ≡ first_from (plain_from 1 before) (series_from 1 before) (length before + 1) after
unfolding first_fault
first_fault-from before [] = refl
first_fault-from before (line ∷ after) =
    let longer : length (before ++ line ∷ []) + 1 ≡ length before + 1 + 1 = omega (arith, length-append before (line ∷ [])) in
    let plain = plain_from-push 1 (length before + 1) before line (omega arith) in
    let series = series_from-push 1 (length before + 1) before line (omega arith) in
    ap (option_or (fault_after (plain_from 1 before) (series_from 1 before) (length before + 1) line))
    (first_fault-from (before ++ line ∷ []) after ∙ (λ j. first_from (plain j) (series j) (longer j) after))

-- all lines are from the first on
pub first_fault-whole : (after : List Statement) → first_fault [] after ≡ first_from [] [] 1 after
unfolding plain_from series_from
first_fault-whole after = first_fault-from [] after

-- What the lines of a feed give is what some of them gave and what is left of them gives.
pub record AreLeft (all : List Statement) (plain : List Plain) (series : List Series) (number : ℕ) (here : List Statement) : Type 0 where
  pub fault : first_fault [] all ≡ first_from plain series number here
  pub plainly : plain_from 1 all ≡ plain ++ plain_from number here
  pub serially : series_from 1 all ≡ series ++ series_from number here

-- all are left at first
pub left-all : (all : List Statement) → AreLeft all [] [] 1 all
left-all all = record { fault = first_fault-whole all; plainly = refl; serially = refl }

-- a good line is taken
pub left-next : (all : List Statement) (plain plain_now : List Plain) (series series_now : List Series) (number next : ℕ)
    (here after : List Statement) (line : Statement)
    → AreLeft all plain series number here → here ≡ line ∷ after → fault_after plain series number line ≡ None
    → plain_now ≡ plain ++ plain_in number line → series_now ≡ series ++ series_in number line → next ≡ number + 1
    → AreLeft all plain_now series_now next after
unfolding plain_from series_from
left-next all plain plain_now series series_now number next here after line left split good plainly serially at = rw (plainly, serially, at)
    (record {
      fault = left.fault ∙ ap (first_from plain series number) split
          ∙ ap (λ f. option_or f (first_from (plain ++ plain_in number line) (series ++ series_in number line) (number + 1) after)) good;
      plainly = left.plainly ∙ ap (λ said. plain ++ plain_from number said) split
          ∙ sym (append_assoc plain (plain_in number line) (plain_from (number + 1) after));
      serially = left.serially ∙ ap (λ said. series ++ series_from number said) split
          ∙ sym (append_assoc series (series_in number line) (series_from (number + 1) after));
    })

-- none is left at last
pub left-none : (all : List Statement) (plain : List Plain) (series : List Series) (number : ℕ) (here : List Statement)
    → AreLeft all plain series number here → here ≡ []
    → (first_fault [] all ≡ None) × (plain ≡ plain_from 1 all) × (series ≡ series_from 1 all)
unfolding plain_from series_from
left-none all plain series number here left none = (
  left.fault ∙ ap (first_from plain series number) none,
  sym (left.plainly ∙ ap (λ said. plain ++ plain_from number said) none ∙ append-nil plain),
  sym (left.serially ∙ ap (λ said. series ++ series_from number said) none ∙ append-nil series),
)

none-among : (x : Entry) → IsAmong x (merged [] []) → ⊥
unfolding merged in_order entries_from
none-among x m = m

-- no inputs are no list
pub merged-none : (plain : List Plain) (series : List Series) → plain ≡ [] → series ≡ [] → merged plain series ≡ []
unfolding merged in_order entries_from
merged-none plain series p s = ap (λ (l : List Plain). merged l series) p ∙ ap (merged []) s

-- nothing is gathered at first
pub none_gathered : (line : ℕ) → AreGathered [] [] line
none_gathered line = record { sources = no-sources; plainly = omega arith; few = omega arith; lines = λ x m. absurd (none-among x m) }

insert-last : (plain : List Plain) (p : Plain) → insert plain (length plain) p ≡ plain ++ p ∷ []
insert-last [] p = refl
insert-last (q ∷ plain) p = ap (λ l. q ∷ l) (insert-last plain p)

-- a line that gives an input that is not late
pub gathered_push : (plain more : List Plain) (series : List Series) (line cycle : ℕ) (input : Input) → AreGathered plain series line
    → is_late plain cycle ≡ false → length plain < most_inputs
    → more ≡ plain ++ record { cycle = cycle; line = line; input = input } ∷ [] → AreGathered more series (line + 1)
gathered_push plain more series line cycle input g in_time few is =
    gathered-more plain more series line cycle (length plain) input g
    (place-last plain cycle g.sources.plain_in_order (λ q at. ltb-false cycle q.cycle (rw at at in_time)))
    (is ∙ sym (insert-last plain (record { cycle = cycle; line = line; input = input }))) few

-- a line that gives a series
pub gathered_series : (plain : List Plain) (series more : List Series) (line : ℕ) (s : Series) → AreGathered plain series line
    → s.line ≡ line → IsRule s → length series < 16 → more ≡ series ++ s ∷ []
    → AreGathered plain more (line + 1)
gathered_series plain series more line s g on rule few is =
    let below = subst (λ n. LinesBelow (merged plain series) n) (sym on) g.lines in
    subst (λ (l : List Series). AreGathered plain l (line + 1)) (sym is) (record {
      sources = sources-more plain series s g.sources rule below;
      plainly = g.plainly;
      few = let long = length-append series (s ∷ []) in omega (arith, long, few);
      lines = subst (λ n. LinesBelow (merged plain (series ++ s ∷ [])) (n + 1)) on (lines-more plain series s below);
    })
