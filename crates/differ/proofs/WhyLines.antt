-- Pairs of steps from a cell back, one after another.
use Rattle.std.proofs.Common.{◌≡◌, ℕ, zero, suc, ◌-◌, ◌<◌, List, [], ◌++◌, Option, Some, None, Result, Ok, Err, refl, sym, ap, ◌∙◌}
use Rattle.std.proofs.Common.{append_assoc, append-nil, arith, codes}
use Rattle.words.specs.Devices.{Writes, WritesBeginning}
use Rattle.words.specs.declared.device.WriteFailed.{WriteFailed}
use Rattle.words.proofs.Texts.{append-then, beginning-after, beginning-longer}
use Rattle.differ.specs.declared.causes.Followed.{Followed}
use Rattle.differ.specs.DifferText.{Named, link_part, next_after, rest_by, why_text}
use Rattle.differ.specs.WhyTold.{WhyTold}

none_left : (one other : Named) (f : Followed) → why_text one other 0 f ≡ codes "MORE\n"
unfolding why_text
none_left one other f = refl

one_left : (one other : Named) (k : ℕ) (f : Followed)
    → why_text one other (suc k) f ≡ link_part one other f ++ rest_by (why_text one other k) (next_after one other f)
unfolding why_text
one_left one other k f = refl

-- before the first
pub told_none : (one other : Named) (k : ℕ) (f : Followed) (old : List ℕ) → WhyTold one other (why_text one other k f) old old k f
told_none one other k f old = record { text = []; goes_on = refl; written = sym (append-nil old) }

module _ (one other : Named) (whole old now : List ℕ) (left : ℕ) (at : Followed) (t : WhyTold one other whole old now left at) where
  -- what is left, after a pair more
  more : 0 < left → whole ≡ t.text ++ (link_part one other at ++ rest_by (why_text one other (left - 1)) (next_after one other at))
  more some =
      let e : left ≡ suc (left - 1) = omega (arith, some) in
      t.goes_on ∙ ap (λ (y : List ℕ). t.text ++ y) (ap (λ n. why_text one other n at) e ∙ one_left one other (left - 1) at)

  -- no more are asked for
  pub told_all : (new : List ℕ) (result : Result (Unit {0}) WriteFailed) → left ≡ 0 → Writes now new (codes "MORE\n") result
      → Writes old new whole result
  told_all new (Ok x) none w = append-then old now new t.text (codes "MORE\n") t.written w
      ∙ ap (λ (y : List ℕ). old ++ y) (sym (t.goes_on ∙ ap (λ (y : List ℕ). t.text ++ y)
      (ap (λ n. why_text one other n at) none ∙ none_left one other at)))
  told_all new (Err failed) none w =
      rw (t.goes_on, none, none_left one other at) (beginning-after old now new t.text (codes "MORE\n") t.written w)

  -- a pair from which another cell is followed
  pub told_more : (new : List ℕ) (next : Followed) → 0 < left → Some next ≡ next_after one other at
      → new ≡ now ++ link_part one other at → WhyTold one other whole old new (left - 1) next
  told_more new next some found w = record {
    text = t.text ++ link_part one other at;
    goes_on = more some
        ∙ ap (λ (o : Option Followed). t.text ++ (link_part one other at ++ rest_by (why_text one other (left - 1)) o)) (sym found)
        ∙ sym (append_assoc t.text (link_part one other at) (why_text one other (left - 1) next));
    written = append-then old now new t.text (link_part one other at) t.written w;
  }

  -- a pair from which none is
  pub told_last : (new : List ℕ) → 0 < left → None ≡ next_after one other at → new ≡ now ++ link_part one other at → new ≡ old ++ whole
  told_last new some none w = append-then old now new t.text (link_part one other at) t.written w
      ∙ ap (λ (y : List ℕ). old ++ y) (sym (more some
      ∙ ap (λ (o : Option Followed). t.text ++ (link_part one other at ++ rest_by (why_text one other (left - 1)) o)) (sym none)
      ∙ ap (λ (y : List ℕ). t.text ++ y) (append-nil (link_part one other at))))

  -- a pair that could not be written whole
  pub told_part : (new : List ℕ) → 0 < left → WritesBeginning now new (link_part one other at) → WritesBeginning old new whole
  told_part new some w = rw (more some)
      (beginning-after old now new t.text _ t.written (beginning-longer now new (link_part one other at) _ w))
