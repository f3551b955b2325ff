-- A line whose label is kept has no layout fault.
use Rattle.std.proofs.Common.{◌≡◌, Bool, true, not, List, [], sym, ◌∙◌}
use Rattle.std.proofs.lemmas.Bool.{and_parts}
use Rattle.std.specs.List.{list_all, list_any}
use Rattle.yayul.specs.Language.{FaultKind, Operation}
use Rattle.yayul.specs.Survey.{is_done, is_kept, is_of_label, rests_on_known}
use Rattle.yayul.specs.declared.doubt.Known.{Known}
use Rattle.yayul.proofs.NoLabel.{no_kinds}
use Rattle.yayul.proofs.Sure.{not_false}

module _ (known : Known) (alone : Bool) (operation : Operation) (held : List FaultKind) (done kept : Bool)
    (is_done_so : done ≡ is_done known alone operation held) (is_kept_so : kept ≡ is_kept done held) (is : kept ≡ true) where
  pub kept_done : done ≡ true
  kept_done = (and_parts done (not (list_any is_of_label held)) (sym is_kept_so ∙ is)).0

  pub kept_faultless : (kinds : List FaultKind) → held ≡ kinds → kinds ≡ []
  kept_faultless kinds same =
      sym same ∙ no_kinds held
      (and_parts (list_all is_of_label held) (rests_on_known known alone operation) (sym is_done_so ∙ kept_done)).0
      (not_false (list_any is_of_label held) (and_parts done (not (list_any is_of_label held)) (sym is_kept_so ∙ is)).1)
