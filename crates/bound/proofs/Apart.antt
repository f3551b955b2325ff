-- Words no two of which are one.
use Rattle.std.proofs.Common.{◌==◌, ◌≡◌, ◌≢◌, ℕ, suc, ◌+◌, ◌*◌, ◌≤◌, ◌||◌, Bool, true, false, cond, not, List, [], ◌∷◌, ◌++◌, All}
use Rattle.std.proofs.Common.{Option, Some, None, MatchOption, find, is_some, length, map, refl, sym, ap, subst, ◌∙◌, inl, inr}
use Rattle.std.proofs.Common.{arith, length-append}
use Rattle.std.specs.List.{list_any, position, position_or_len}
use Rattle.std.specs.Option.{option_to_list}
use Rattle.std.proofs.lemmas.Bool.{cases_lt, eq-eqb, lt-ltb}
use Rattle.std.proofs.lemmas.List.Elements.{All-cons, All-head, All-nil, All-push, All-tail}
use Rattle.bound.specs.declared.checking.Row.{Row}
use Rattle.bound.specs.declared.site.Site.{Site}
use Rattle.bound.specs.Bounds.{AreApart}
use Rattle.bound.specs.Inside.Checks.{number_at, number_by, same, same_bool}
use Rattle.bound.specs.Inside.Searches.{is_in, last_of, with_all, with_site}

-- a word is itself
eqb_refl : (n : ℕ) → (n == n) ≡ true
eqb_refl n = eq-eqb n n refl

bool_refl : (b : Bool) → same_bool b b ≡ true
bool_refl true = refl
bool_refl false = refl

pub same_refl : (p : Site) → same p p ≡ true
same_refl p =
    rw (
      eqb_refl p.bank,
      eqb_refl p.address,
      bool_refl p.mode.extra,
      bool_refl p.mode.indexed,
      bool_refl p.mode.held,
      bool_refl p.mode.banked,
    ) refl

pub not_same : (p q : Site) → same p q ≡ false → p ≢ q
not_same p q e = λ is. absurd (let one : same p q ≡ true = subst (λ (x : Site). same p x ≡ true) is (same_refl p) in cc)

-- a word is none of some
abbrev pub IsOther : List Site → Site → Type 0
IsOther ps q = All (λ p. p ≢ q) ps

others_to : (ps : List Site) (q : Site) → length ps ≤ position_or_len (λ p. same p q) ps → IsOther ps q
others_to [] q le = All-nil (λ p. p ≢ q)
others_to (p ∷ ps) q le = go (same p q) refl le (λ f. others_to ps q f)
  where
    go : (b : Bool) → same p q ≡ b → suc (length ps) ≤ cond (not b) (1 + position_or_len (λ r. same r q) ps) 0
        → (length ps ≤ position_or_len (λ r. same r q) ps → IsOther ps q) → IsOther (p ∷ ps) q
    go true is f later = absurd (omega (arith, f))
    go false is f later = All-cons (λ r. r ≢ q) p ps (not_same p q is) (later (omega (arith, f)))

others_from : (ps : List Site) (q : Site) → is_some (position (λ p. same p q) ps) ≡ false → IsOther ps q
others_from ps q e = elim (cases_lt (position_or_len (λ p. same p q) ps) (length ps)) [
  | inl within ↦ absurd (let one : is_some (position (λ p. same p q) ps) ≡ true =
      ap (λ (b : Bool). is_some (cond b (Some (position_or_len (λ p. same p q) ps)) None))
      (lt-ltb (position_or_len (λ p. same p q) ps) (length ps) within) in cc)
  | inr beyond ↦ others_to ps q beyond
]

others_in : (ps : List Site) (q : Site) → is_in ps q ≡ false → IsOther ps q
others_in [] q e = All-nil (λ p. p ≢ q)
others_in (p ∷ ps) q e = go (same p q) refl e (λ f. others_in ps q f)
  where
    go : (b : Bool) → same p q ≡ b → (b || list_any (λ r. same r q) ps) ≡ false → (is_in ps q ≡ false → IsOther ps q)
        → IsOther (p ∷ ps) q
    go true is f later = absurd (cc)
    go false is f later = All-cons (λ r. r ≢ q) p ps (not_same p q is) (later f)

-- the words of rows
abbrev pub sites_of : List Row → List Site
sites_of rows = map (λ row. row.site) rows

others_known : (rows : List Row) (q : Site) → number_at rows q ≡ None → IsOther (sites_of rows) q
others_known [] q e = All-nil (λ p. p ≢ q)
others_known (row ∷ rows) q e = go (same row.site q) refl e (λ f. others_known rows q f)
  where
    go : (b : Bool) → same row.site q ≡ b → number_by (cond b (Some row) (find (λ r. same r.site q) rows)) ≡ None
        → (number_at rows q ≡ None → IsOther (sites_of rows) q) → IsOther (sites_of (row ∷ rows)) q
    go true is f later = absurd (cc)
    go false is f later = All-cons (λ r. r ≢ q) row.site (sites_of rows) (not_same row.site q is) (later f)

-- one more that is none of some
pub apart_more : (ps : List Site) (q : Site) → AreApart ps → IsOther ps q → AreApart (ps ++ q ∷ [])
apart_more [] q a o = (All-nil (λ r. q ≢ r), tt)
apart_more (p ∷ ps) q a o =
    (All-push (λ r. p ≢ r) ps q a.0 (All-head (λ r. r ≢ q) p ps o), apart_more ps q a.1 (All-tail (λ r. r ≢ q) p ps o))

-- the first are apart, and the last is none of them
pub apart_front : (ps qs : List Site) → AreApart (ps ++ qs) → AreApart ps
apart_front [] qs a = tt
apart_front (p ∷ ps) qs a = (front ps a.0, apart_front ps qs a.1)
  where
    front : (rs : List Site) → All (λ r. p ≢ r) (rs ++ qs) → All (λ r. p ≢ r) rs
    front [] h = All-nil (λ r. p ≢ r)
    front (r ∷ rs) h = All-cons (λ x. p ≢ x) r rs (All-head (λ x. p ≢ x) r (rs ++ qs) h) (front rs (All-tail (λ x. p ≢ x) r (rs ++ qs) h))

pub last_other : (ps : List Site) (q : Site) → AreApart (ps ++ q ∷ []) → IsOther ps q
last_other [] q a = All-nil (λ p. p ≢ q)
last_other (p ∷ ps) q a = All-cons (λ r. r ≢ q) p ps (last_of_all ps a.0) (last_other ps q a.1)
  where
    last_of_all : (rs : List Site) → All (λ r. p ≢ r) (rs ++ q ∷ []) → p ≢ q
    last_of_all [] h = All-head (λ r. p ≢ r) q [] h
    last_of_all (r ∷ rs) h = last_of_all rs (All-tail (λ x. p ≢ x) r (rs ++ q ∷ []) h)

pub first_apart : (r : Site) (ps : List Site) → ps ≡ r ∷ [] → AreApart ps
first_apart r ps e = subst (λ qs. AreApart qs) (sym e) (All-nil (λ q. r ≢ q), tt)

-- those to which ways lead stay apart
one_apart : (ps : List Site) (q : Site) → AreApart ps → AreApart (with_site ps q)
one_apart ps q a = go (is_some (position (λ p. same p q) ps)) refl
  where
    go : (b : Bool) → is_some (position (λ p. same p q) ps) ≡ b → AreApart (cond b ps (ps ++ q ∷ []))
    go true is = a
    go false is = apart_more ps q a (others_from ps q is)

all_apart : (ps qs : List Site) → AreApart ps → AreApart (with_all ps qs)
all_apart ps [] a = a
all_apart ps (q ∷ qs) a = all_apart (with_site ps q) qs (one_apart ps q a)

pub more_apart : (ps qs rs : List Site) → AreApart ps → rs ≡ with_all ps qs → AreApart rs
more_apart ps qs rs a e = subst (λ xs. AreApart xs) (sym e) (all_apart ps qs a)

-- routines: those whose bounds are known, and those in progress, apart from one another
pub record ArePartsOf (known : List Row) (begun : List Site) : Type 0 where
  pub known_apart : AreApart (sites_of known)
  pub begun_apart : AreApart begun
  pub across : All (λ q. IsOther (sites_of known) q) begun

sites_more : (rows : List Row) (row : Row) → sites_of (rows ++ row ∷ []) ≡ sites_of rows ++ row.site ∷ []
sites_more [] row = refl
sites_more (r ∷ rows) row = ap (λ ps. r.site ∷ ps) (sites_more rows row)

-- one more is begun
pub parts_begun : (known : List Row) (begun : List Site) (q : Site) → ArePartsOf known begun → is_in begun q ≡ false
    → number_at known q ≡ None → ArePartsOf known (begun ++ q ∷ [])
parts_begun known begun q x new fresh = record {
  known_apart = x.known_apart;
  begun_apart = apart_more begun q x.begun_apart (others_in begun q new);
  across = All-push (λ p. IsOther (sites_of known) p) begun q x.across (others_known known q fresh);
}

-- the bound of the last is known
parts_known_last : (known : List Row) (begun : List Site) (row : Row) → ArePartsOf known (begun ++ row.site ∷ [])
    → ArePartsOf (known ++ row ∷ []) begun
parts_known_last known begun row x = record {
  known_apart = subst (λ ps. AreApart ps) (sym (sites_more known row))
      (apart_more (sites_of known) row.site x.known_apart (last_across begun x.across));
  begun_apart = apart_front begun (row.site ∷ []) x.begun_apart;
  across = subst (λ ps. All (λ q. IsOther ps q) begun) (sym (sites_more known row))
      (both begun x.across (last_other begun row.site x.begun_apart));
}
  where
    last_across : (ps : List Site) → All (λ q. IsOther (sites_of known) q) (ps ++ row.site ∷ []) → IsOther (sites_of known) row.site
    last_across [] h = All-head (λ q. IsOther (sites_of known) q) row.site [] h
    last_across (p ∷ ps) h = last_across ps (All-tail (λ q. IsOther (sites_of known) q) p (ps ++ row.site ∷ []) h)

    turned : (q : Site) → q ≢ row.site → row.site ≢ q
    turned q h = λ e. h (sym e)

    both : (ps : List Site) → All (λ q. IsOther (sites_of known) q) (ps ++ row.site ∷ []) → IsOther ps row.site
        → All (λ q. IsOther (sites_of known ++ row.site ∷ []) q) ps
    both [] h o = All-nil (λ q. IsOther (sites_of known ++ row.site ∷ []) q)
    both (p ∷ ps) h o =
        All-cons (λ q. IsOther (sites_of known ++ row.site ∷ []) q) p ps
        (All-push (λ r. r ≢ p) (sites_of known) row.site (All-head (λ q. IsOther (sites_of known) q) p (ps ++ row.site ∷ []) h)
        (turned p (All-head (λ r. r ≢ row.site) p ps o)))
        (both ps (All-tail (λ q. IsOther (sites_of known) q) p (ps ++ row.site ∷ []) h) (All-tail (λ r. r ≢ row.site) p ps o))

-- or that of the routine itself, where none is in progress
pub parts_known : (known : List Row) (routine : Site) (begun rest : List Site) (last : Option Site) (row : Row)
    → (n m : ℕ) → begun ≡ rest ++ option_to_list last → n ≡ length begun → MatchOption last ((n ≡ 0) × (m ≡ 0)) (λ q. m + 1 ≡ n)
    → row.site ≡ last_of routine begun → number_at known routine ≡ None → ArePartsOf known begun → ArePartsOf (known ++ row ∷ []) rest
parts_known known routine begun rest None row n m e long cases is new x = record {
  known_apart = subst (λ ps. AreApart ps) (sym (sites_more known row))
      (apart_more (sites_of known) row.site x.known_apart (subst (λ (q : Site). IsOther (sites_of known) q) (sym here)
      (others_known known routine new)));
  begun_apart = subst (λ ps. AreApart ps) (sym none) tt;
  across = subst (λ ps. All (λ q. IsOther (sites_of (known ++ row ∷ [])) q) ps) (sym none)
      (All-nil (λ q. IsOther (sites_of (known ++ row ∷ [])) q));
}
  where
    nil : (ps : List Site) → ps ++ [] ≡ ps
    nil [] = refl
    nil (p ∷ ps) = ap (λ qs. p ∷ qs) (nil ps)

    nothing : (ps : List Site) → length ps ≡ 0 → ps ≡ []
    nothing [] z = refl
    nothing (p ∷ ps) z = absurd (omega (arith, z))

    empty : begun ≡ []
    empty = nothing begun (omega (arith, long, cases.0))

    none : rest ≡ []
    none = sym (nil rest) ∙ sym e ∙ empty

    here : row.site ≡ routine
    here = is ∙ ap (last_of routine) empty
parts_known known routine begun rest (Some q) row n m e long cases is new x =
    parts_known_last known rest row (subst (λ ps. ArePartsOf known ps) (e ∙ ap (λ (p : Site). rest ++ p ∷ []) (sym here)) x)
  where
    ends : (r : Site) (ps : List Site) → last_of r (ps ++ q ∷ []) ≡ q
    ends r [] = refl
    ends r (p ∷ ps) = ends p ps

    here : row.site ≡ q
    here = is ∙ ap (last_of routine) e ∙ ends routine rest

-- all of them
together : (ps qs : List Site) → AreApart ps → AreApart qs → All (λ q. IsOther ps q) qs → AreApart (ps ++ qs)
together [] qs a b h = b
together (p ∷ ps) qs a b h = (heads ps qs a.0 h, together ps qs a.1 b (tails qs h))
  where
    tails : (rs : List Site) → All (λ q. IsOther (p ∷ ps) q) rs → All (λ q. IsOther ps q) rs
    tails [] g = All-nil (λ q. IsOther ps q)
    tails (r ∷ rs) g =
        All-cons (λ q. IsOther ps q) r rs (All-tail (λ x. x ≢ r) p ps (All-head (λ q. IsOther (p ∷ ps) q) r rs g))
        (tails rs (All-tail (λ q. IsOther (p ∷ ps) q) r rs g))

    firsts : (rs : List Site) → All (λ q. IsOther (p ∷ ps) q) rs → All (λ r. p ≢ r) rs
    firsts [] g = All-nil (λ r. p ≢ r)
    firsts (r ∷ rs) g =
        All-cons (λ x. p ≢ x) r rs (All-head (λ x. x ≢ r) p ps (All-head (λ q. IsOther (p ∷ ps) q) r rs g))
        (firsts rs (All-tail (λ q. IsOther (p ∷ ps) q) r rs g))

    heads : (us rs : List Site) → All (λ r. p ≢ r) us → All (λ q. IsOther (p ∷ ps) q) rs → All (λ r. p ≢ r) (us ++ rs)
    heads [] rs f g = firsts rs g
    heads (u ∷ us) rs f g =
        All-cons (λ r. p ≢ r) u (us ++ rs) (All-head (λ r. p ≢ r) u us f) (heads us rs (All-tail (λ r. p ≢ r) u us f) g)

pub parts_apart : (known : List Row) (begun : List Site) → ArePartsOf known begun → AreApart (sites_of known ++ begun)
parts_apart known begun x = together (sites_of known) begun x.known_apart x.begun_apart x.across

-- what is not some number is none
pub none_is : (o : Option ℕ) → ((n : ℕ) → o ≡ Some n → ⊥) → o ≡ None
none_is None h = refl
none_is (Some n) h = absurd (h n refl)

-- two attempts at most are made for each
pub count_known : (k : ℕ) (known : List Row) (row : Row) (begun rest : List Site) (last : Option Site)
    → k ≤ 2 * length known + length begun → begun ≡ rest ++ option_to_list last
    → k + 1 ≤ 2 * length (known ++ row ∷ []) + length rest
count_known k known row begun rest last le e = go last (ap length e ∙ length-append rest (option_to_list last))
  where
    more : length (known ++ row ∷ []) ≡ length known + 1
    more = length-append known (row ∷ [])

    go : (o : Option Site) → length begun ≡ length rest + length (option_to_list o) → k + 1 ≤ 2 * length (known ++ row ∷ []) + length rest
    go None f = omega (arith, le, f, more)
    go (Some q) f = omega (arith, le, f, more)

pub count_begun : (k : ℕ) (known : List Row) (begun : List Site) (q : Site) → k ≤ 2 * length known + length begun
    → k + 1 ≤ 2 * length known + length (begun ++ q ∷ [])
count_begun k known begun q le = let more = length-append begun (q ∷ []) in omega (arith, le, more)

pub sites_length : (known : List Row) → length (sites_of known) ≡ length known
sites_length [] = refl
sites_length (row ∷ known) = ap suc (sites_length known)

pub all_joined : (P : Site → Type 0) (ps qs : List Site) → All P ps → All P qs → All P (ps ++ qs)
all_joined P [] qs f g = g
all_joined P (p ∷ ps) qs f g = All-cons P p (ps ++ qs) (All-head P p ps f) (all_joined P ps qs (All-tail P p ps f) g)

pub sites_push : (P : Site → Type 0) (known : List Row) (row : Row) → All P (sites_of known) → P row.site
    → All P (sites_of (known ++ row ∷ []))
sites_push P known row all h = subst (λ ps. All P ps) (sym (sites_more known row)) (All-push P (sites_of known) row.site all h)
