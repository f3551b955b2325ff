-- Notes, one by one.
use Rattle.std.proofs.Common.{◌≡◌, ◌∙◌, ℕ, ◌+◌, List, [], ◌∷◌, Option, Some, None, Ok, Err, true, false, refl, ap, sym}
use Rattle.std.specs.Prelude.{nat_lt}
use Rattle.symbols.specs.Values.{SymbolTable}
use Rattle.expect.specs.Kinds.{first_other, is_other}
use Rattle.expect.specs.Lines.{claiming_notes, going_on, kinds_at, last_kind, listed_all, listed_next}
use Rattle.expect.specs.declared.claim.Allowed.{Allowed}
use Rattle.expect.specs.declared.notes.Listing.{Listing}
use Rattle.expect.specs.declared.refusal.Asked.TheVariants as asked

-- a note that is not listed, and one that is
pub at_other : (a : Allowed) (line : List ℕ) (more : List (List ℕ)) → is_other a line ≡ true
    → first_other a (line ∷ more) ≡ Some line
unfolding first_other
at_other a line more other = rw other refl

pub past_listed : (a : Allowed) (line : List ℕ) (more : List (List ℕ)) → is_other a line ≡ false
    → first_other a (line ∷ more) ≡ first_other a more
unfolding first_other
past_listed a line more listed = rw listed refl

-- a field more, one too many, and none
pub kinds_more : (symbols : SymbolTable) (at : ℕ) (l : Listing) (all : List (List ℕ)) (field : List ℕ) (more : List (List ℕ))
    → all ≡ field ∷ more → nat_lt last_kind at ≡ false
    → kinds_at symbols at l all
    ≡ going_on (listed_next symbols at l.allowed l.pending field) (λ next. kinds_at symbols (at + 1) next more)
unfolding kinds_at
kinds_more symbols at l all field more is few = rw is (rw few refl)

pub kinds_many : (symbols : SymbolTable) (at : ℕ) (l : Listing) (all : List (List ℕ)) (field : List ℕ) (more : List (List ℕ))
    → all ≡ field ∷ more → nat_lt last_kind at ≡ true
    → kinds_at symbols at l all ≡ Err (record { field = at; asked = asked.End })
unfolding kinds_at
kinds_many symbols at l all field more is many = rw is (rw many refl)

pub kinds_end : (symbols : SymbolTable) (at : ℕ) (l : Listing) (all : List (List ℕ)) → all ≡ []
    → kinds_at symbols at l all ≡ claiming_notes (listed_all at l.allowed l.pending)
unfolding kinds_at
kinds_end symbols at l all none = rw none refl
