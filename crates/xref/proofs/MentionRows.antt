-- What lines mention, one after another.
use Rattle.std.proofs.Common.{◌≡◌, ◌<◌, ◌+◌, ◌++◌, ◌∙◌, ℕ, true, false, List, ◌∷◌, length, map, drop, get_or, ap, sym, refl, append_assoc}
use Rattle.std.proofs.lemmas.List.{drop_more}
use Rattle.agc_text.specs.Tables.{same_name}
use Rattle.yayul.specs.Readings.{Parts, parts_for}
use Rattle.yayul.specs.declared.language.Language.{Language}
use Rattle.xref.specs.Xref.{Told, told, defines, rows_of, rows_in, mention_row, defined_on, used_on, mentions_from}
use Rattle.xref.specs.declared.mention.Mention as declared

-- the rows of a name
pub row_yes : (name : List ℕ) (ms : List declared.Mention) (i : ℕ) (d : declared.Mention) → i < length ms
    → same_name (get_or ms i d).name.now name ≡ true
    → rows_of name (map told (drop i ms)) ≡ mention_row (told (get_or ms i d)) ++ rows_of name (map told (drop (i + 1) ms))
row_yes name ms i d within same = ap (λ (x : List declared.Mention). rows_of name (map told x)) (drop_more ms i d within) ∙ rw same refl

-- the rows of all that are defined
pub rows_yes : (whole : List Told) (ms : List declared.Mention) (i : ℕ) (d : declared.Mention) → i < length ms
    → defines (get_or ms i d).used ≡ true
    → rows_in whole (map told (drop i ms)) ≡ rows_of (get_or ms i d).name.now whole ++ rows_in whole (map told (drop (i + 1) ms))
rows_yes whole ms i d within some = ap (λ (x : List declared.Mention). rows_in whole (map told x)) (drop_more ms i d within) ∙ rw some refl

pub rows_no : (whole : List Told) (ms : List declared.Mention) (i : ℕ) (d : declared.Mention) → i < length ms
    → defines (get_or ms i d).used ≡ false
    → rows_in whole (map told (drop i ms)) ≡ rows_in whole (map told (drop (i + 1) ms))
rows_no whole ms i d within none = ap (λ (x : List declared.Mention). rows_in whole (map told x)) (drop_more ms i d within) ∙ rw none refl

-- what one line more mentions
pub mentioned : (language : Language) (found found' : List Told) (line : ℕ) (texts after : List (List ℕ)) (text : List ℕ) (parts : Parts)
    (whole : List Told) → texts ≡ text ∷ after → parts ≡ parts_for language text
    → found' ≡ found ++ (defined_on line parts ++ used_on line parts) → found ++ mentions_from line (map (parts_for language) texts) ≡ whole
    → found' ++ mentions_from (line + 1) (map (parts_for language) after) ≡ whole
mentioned language found found' line texts after text parts whole split is new so_far =
    let rest = mentions_from (line + 1) (map (parts_for language) after) in
    ap (λ (x : List Told). x ++ rest) new ∙ append_assoc found (defined_on line parts ++ used_on line parts) rest
    ∙ ap (λ (p : Parts). found ++ ((defined_on line p ++ used_on line p) ++ rest)) is
    ∙ sym (ap (λ (x : List (List ℕ)). found ++ mentions_from line (map (parts_for language) x)) split) ∙ so_far
