-- Lists that are gone through, and what is appended on the way.
use Rattle.std.proofs.Common.{◌≡◌, ◌∙◌, ℕ, List, ◌∷◌, ◌++◌, take, drop, ap}
use Rattle.std.proofs.Common.{sym, append_assoc}
use Rattle.std.specs.Prelude.{flat_map}
use Rattle.yayul.specs.declared.finding.Finding.{Finding}
use Rattle.diagnostics.specs.Report.{merged}
use Rattle.warnings.specs.Joined.{count_before}
use Rattle.warnings.specs.declared.told.Warning.{Warning}

-- a fault, after the warnings of earlier lines
pub merged_step :
    (error : Finding → List ℕ) (warning : Warning → List ℕ) (faults rest : List Finding) (warnings : List Warning) (f : Finding)
    (o0 o1 o2 : List ℕ) → faults ≡ f ∷ rest
    → o1 ≡ o0 ++ flat_map warning (take (count_before f.line warnings) warnings) → o2 ≡ o1 ++ error f
    → o2 ++ merged error warning rest (drop (count_before f.line warnings) warnings) ≡ o0 ++ merged error warning faults warnings
merged_step error warning faults rest warnings f o0 o1 o2 next e1 e2 =
    let n = count_before f.line warnings in
    let early = flat_map warning (take n warnings) in
    let later = merged error warning rest (drop n warnings) in
    let whole : o0 ++ (early ++ error f ++ later)
    ≡ o0 ++ merged error warning faults warnings = ap (λ (fs : List Finding). o0 ++ merged error warning fs warnings) (sym next) in
    ap (λ o. o ++ later) (e2 ∙ ap (λ o. o ++ error f) e1 ∙ append_assoc o0 early (error f))
    ∙ append_assoc o0 (early ++ error f) later
    ∙ whole

-- five texts appended
pub five_appended :
    (out a b c d e o1 o2 o3 o4 o5 : List ℕ) → o1 ≡ out ++ a → o2 ≡ o1 ++ b → o3 ≡ o2 ++ c → o4 ≡ o3 ++ d → o5 ≡ o4 ++ e
    → o5 ≡ out ++ (a ++ b ++ c ++ d ++ e)
five_appended out a b c d e o1 o2 o3 o4 o5 e1 e2 e3 e4 e5 =
    e5 ∙ ap (λ o. o ++ e) (e4 ∙ ap (λ o. o ++ d) (e3 ∙ ap (λ o. o ++ c) (e2 ∙ ap (λ o. o ++ b) e1 ∙ append_assoc out a b)
    ∙ append_assoc out (a ++ b) c)
    ∙ append_assoc out (a ++ b ++ c) d) ∙ append_assoc out (a ++ b ++ c ++ d) e
