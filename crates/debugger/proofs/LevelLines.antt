-- The lines of levels, one by one.
use Rattle.std.proofs.Common.{◌≡◌, ℕ, suc, ◌+◌, ◌<◌, ◌≤◌, List, ◌∷◌, ◌++◌, length, drop, get_or, sym, ap, ◌∙◌, arith, append_assoc}
use Rattle.std.specs.Prelude.{codes, decimal}
use Rattle.std.proofs.Math.Seq.{drop-cons}
use Rattle.std.proofs.lemmas.List.{drop_all}
use Rattle.origins.specs.declared.tally.Tally.{Tally}
use Rattle.debugger.specs.OriginsTold.{level_text, levels_from, told_if}
use Rattle.debugger.specs.Replies.{line}

pub levels_more : (told i : ℕ) (ls : List Tally) (t : Tally) (text whole : List ℕ) → i < length ls → t ≡ get_or ls i t
    → text ++ levels_from told i (drop i ls) ≡ whole
    → (text ++ level_text i t) ++ levels_from (told_if t told) (i + 1) (drop (i + 1) ls) ≡ whole
levels_more told i ls t text whole within is so_far =
    let next : suc i ≡ i + 1 = omega arith in
    let split : drop i ls ≡ t ∷ drop (i + 1) ls =
    drop-cons ls i t within ∙ ap (λ (d : Tally). d ∷ drop (suc i) ls) (sym is) ∙ ap (λ n. t ∷ drop n ls) next in
    append_assoc text (level_text i t) (levels_from (told_if t told) (i + 1) (drop (i + 1) ls))
    ∙ ap (λ (y : List ℕ). text ++ y) (sym (ap (levels_from told i) split)) ∙ so_far

pub levels_end : (told i : ℕ) (ls : List Tally) (text whole : List ℕ) → length ls ≤ i → text ++ levels_from told i (drop i ls) ≡ whole
    → text ++ line (codes "COUNT " ++ decimal told) ≡ whole
levels_end told i ls text whole past so_far =
    ap (λ (y : List ℕ). text ++ y) (sym (ap (levels_from told i) (drop_all i ls past))) ∙ so_far
