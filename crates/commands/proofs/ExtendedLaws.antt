-- What lines of an extended session ask for.
use Rattle.std.proofs.Common.{◌≡◌, ℕ, ◌≤◌, None, Some, List, ◌∷◌, All, length, drop, map, slice_index_or, refl, subst, inl, inr}
use Rattle.std.proofs.Common.{arith}
use Rattle.std.specs.List.{before_first, range_with_len, filter}
use Rattle.std.proofs.lemmas.List.{length-drop, length-take}
use Rattle.std.proofs.lemmas.List.Elements.{All-map, All-head, All-tail}
use Rattle.agc_text.specs.Fields.{Piece, is_blank, before_comment, is_run_start, run_at, runs, texts, fields}
use Rattle.symbols.specs.Values.{SymbolTable}
use Rattle.commands.specs.Extended.{extended_in, extended_line}
use Rattle.commands.specs.Lines.{kept_line}
use Rattle.commands.specs.declared.command.ParsedLine.TheVariants.{TooLong}
use Rattle.commands.specs.declared.extended.ExtendedLine.{ExtendedLine}
use Rattle.commands.specs.declared.extended.ExtendedLine.TheVariants.{Plain}
use Rattle.commands.proofs.ParsedLaws.{kept-whole, not-kept}

-- what a line asks for that is kept whole
pub extended-kept : (symbols : SymbolTable) (line text : List ℕ) → Some text ≡ kept_line line
    → extended_in symbols text (fields text) ≡ extended_line symbols line
unfolding extended_line
extended-kept symbols line text same =
    kept-whole ExtendedLine (λ text. extended_in symbols text (fields text)) (Plain TooLong) line text same

-- what a line asks for that is too long
pub extended-too-long : (symbols : SymbolTable) (line : List ℕ) → None ≡ kept_line line → Plain TooLong ≡ extended_line symbols line
unfolding extended_line
extended-too-long symbols line same =
    not-kept ExtendedLine (λ text. extended_in symbols text (fields text)) (Plain TooLong) line same

-- the fields of a text are no longer than the text
shorter : (xs : List ℕ) → length (before_first is_blank xs) ≤ length xs
shorter xs = simp length-take (omega arith)

pub fields-short : (text : List ℕ) (n : ℕ) → length text ≤ n → All (λ field. length field ≤ n) (texts (runs text))
unfolding runs
fields-short text n short =
    All-map (λ field. length field ≤ n) (λ (piece : Piece). piece.text)
    (map (run_at text) (filter (is_run_start text) (range_with_len 0 (length text))))
    (All-map (λ (piece : Piece). length piece.text ≤ n) (run_at text) (filter (is_run_start text) (range_with_len 0 (length text)))
    (λ k d below. omega (
      arith,
      shorter (drop (slice_index_or (filter (is_run_start text) (range_with_len 0 (length text))) k d) text),
      length-drop (slice_index_or (filter (is_run_start text) (range_with_len 0 (length text))) k d) text,
    )))

pub before_comment-short : (line : List ℕ) (n : ℕ) → length line ≤ n → length (before_comment line) ≤ n
before_comment-short line n short = simp length-take (omega (arith, short))

-- so is the first of them, and so are the others
pub first-short : (n : ℕ) (all : List (List ℕ)) (first : List ℕ) (more : List (List ℕ)) → All (λ field. length field ≤ n) all
    → all ≡ first ∷ more → length first ≤ n
first-short n all first more short is = All-head (λ field. length field ≤ n) first more
    (subst (λ (xs : List (List ℕ)). All (λ field. length field ≤ n) xs) is short)

pub others-short : (n : ℕ) (all : List (List ℕ)) (first : List ℕ) (more : List (List ℕ)) → All (λ field. length field ≤ n) all
    → all ≡ first ∷ more → All (λ field. length field ≤ n) more
others-short n all first more short is = All-tail (λ field. length field ≤ n) first more
    (subst (λ (xs : List (List ℕ)). All (λ field. length field ≤ n) xs) is short)
