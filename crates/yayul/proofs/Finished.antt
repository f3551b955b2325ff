-- What is known of a layout that is finished.
use Rattle.std.proofs.Common.{◌≡◌, ℕ, Some, None, Result, Err, map, ap, sym, subst, ◌∙◌}
use Rattle.yayul.specs.Layout.{Layout}
use Rattle.yayul.specs.Later.{Table, first_fault, settled, with_values}
use Rattle.yayul.specs.Program.{GivesProgram, Program, Source, completed, finished}
use Rattle.yayul.specs.Language.{Fault}
use Rattle.yayul.specs.Inside.Answers.{Agrees}
use Rattle.yayul.specs.Inside.Representation.{promise_of, request_of}
use Rattle.yayul.specs.Inside.Waiting.{Holds}
use Rattle.yayul.specs.declared.layout.Layout.{Layout as Held}
use Rattle.yayul.specs.declared.layout.Placing.{Placing}
use Rattle.yayul.proofs.LineAgrees.{named_keeps}
use Rattle.yayul.proofs.WholeSource.{answers_same, finished_err, finished_ok}
use Rattle.yayul.proofs.Equalled.{settled_follows}

module _ (line : ℕ) (s : Layout) (l : Held) (p : Placing) (agrees : Agrees line s l p) where
  -- the names that wait, and the values of all
  pub promises_same : map promise_of l.promises.items ≡ s.promises
  promises_same = ap (λ (t : Layout). t.promises) agrees.same

  pub values_same : (table : Table) → table ≡ settled (map promise_of l.promises.items) l.symbols → table ≡ (with_values s).symbols
  values_same table is = is ∙ ap (λ (t : Layout). settled t.promises t.symbols) agrees.same

  -- what is held of the words holds with these values
  pub values_hold : Holds line (with_values s).symbols s.requests (map request_of p.waiting.items) p.rope p.fault
  values_hold =
      let more = settled_follows s.promises s.symbols in
      subst (λ (table : Table). Holds line table s.requests (map request_of p.waiting.items) p.rope p.fault) (sym more.1)
      (named_keeps line s p more.0 agrees.keeps).holds

  -- a name that waits has a fault
  pub finished_fault : (source : Source) (table : Table) (fault : Fault) → table ≡ settled (map promise_of l.promises.items) l.symbols
      → Some fault ≡ first_fault table (map promise_of l.promises.items)
      → GivesProgram (finished s source) (Err fault)
  finished_fault source table fault is first =
      finished_err s source fault (sym (first ∙ ap (λ t. first_fault t (map promise_of l.promises.items)) (values_same table is)
      ∙ ap (first_fault (with_values s).symbols) promises_same))

  -- none has
  pub finished_words : (source : Source) (table : Table) (result : Result Program Fault)
      → table ≡ settled (map promise_of l.promises.items) l.symbols → None ≡ first_fault table (map promise_of l.promises.items)
      → GivesProgram (completed (with_values s) source) result → GivesProgram (finished s source) result
  finished_words source table result is first gives =
      answers_same (finished s source) (completed (with_values s) source) result
      (finished_ok s source (sym (first ∙ ap (λ t. first_fault t (map promise_of l.promises.items)) (values_same table is)
      ∙ ap (first_fault (with_values s).symbols) promises_same))) gives
