-- Faults among conditions.
use Rattle.std.proofs.Common.{◌≡◌, ℕ, ◌+◌, ◌<◌, ◌==◌, Bool, true, false, not, ◌||◌, ◌&&◌, List, [], ◌∷◌, ◌++◌, length, take, get_or, map}
use Rattle.std.proofs.Common.{Option, Some, None, is_some, cond, refl, ap, sym, ◌∙◌}
use Rattle.std.proofs.lemmas.List.{map-append}
use Rattle.std.proofs.lemmas.List.Elements.{filter_more}
use Rattle.std.specs.Prelude.{flat_map}
use Rattle.std.specs.List.{list_all, list_any, filter}
use Rattle.std.specs.Option.{option_map_or}
use Rattle.yayul.specs.Layout.{standing, fault_number}
use Rattle.yayul.specs.Language.{BadBank, BadLabel, BadOperand, BankFull, CodeInErasable, FaultKind, Language, LongLine, NeedsExtend}
use Rattle.yayul.specs.Language.{NoMemory, NotAscii, NotExtracode, OutOfRange, PlaceTaken, TooManyLines, TwiceDefined, Undefined}
use Rattle.yayul.specs.Language.{UnknownOperator, UsedTooEarly, WrongKindOfAddress}
use Rattle.yayul.specs.declared.doubt.Doubt.{Doubt}
use Rattle.yayul.specs.declared.finding.Finding.{Finding}
use Rattle.yayul.specs.Survey.{is_of_label, some_stands, is_one_of, is_beyond, kinds_in_order, kinds_on, follows, finding, told_of}
use Rattle.yayul.specs.Inside.Answers.{least_kind}
use Rattle.yayul.specs.Inside.Surveys.{has_number, number_in, stands_beyond}

pub some-least : (kinds : List FaultKind) → is_some (least_kind kinds) ≡ some_stands kinds
some-least [] = refl
some-least (kind ∷ kinds) = refl

pub none-stand : (kinds : List FaultKind) → some_stands kinds ≡ false → kinds ≡ []
none-stand [] e = refl
none-stand (kind ∷ kinds) e = absurd (cc)

-- the faults of a label among conditions
pub of_label_all : (conditions : List (Option FaultKind))
    → list_all (λ c. option_map_or is_of_label c true) conditions ≡ list_all is_of_label (standing conditions)
of_label_all [] = refl
of_label_all (None ∷ conditions) = of_label_all conditions
of_label_all (Some kind ∷ conditions) = ap (λ b. is_of_label kind && b) (of_label_all conditions)

pub of_label_any : (conditions : List (Option FaultKind))
    → list_any (λ c. option_map_or is_of_label c false) conditions ≡ list_any is_of_label (standing conditions)
of_label_any [] = refl
of_label_any (None ∷ conditions) = of_label_any conditions
of_label_any (Some kind ∷ conditions) = ap (λ b. is_of_label kind || b) (of_label_any conditions)

-- what is told of so many kinds and one
pub told_next : (language : Language) (test : FaultKind → Bool) (line : ℕ) (text : List ℕ) (taken : Option ℕ) (kinds : List FaultKind)
    (i : ℕ) (d : FaultKind) → i < length kinds
    → map (finding language line text taken) (filter test (take (i + 1) kinds))
    ≡ map (finding language line text taken) (filter test (take i kinds))
    ++ cond (test (get_or kinds i d)) (finding language line text taken (get_or kinds i d) ∷ []) []
told_next language test line text taken kinds i d lt =
    ap (map (finding language line text taken)) (filter_more test kinds i d lt)
    ∙ map-append (finding language line text taken) (filter test (take i kinds)) (cond (test (get_or kinds i d)) (get_or kinds i d ∷ []) [])
    ∙ ap (λ more. map (finding language line text taken) (filter test (take i kinds)) ++ more) (of_one (test (get_or kinds i d)))
  where
    of_one : (b : Bool) → map (finding language line text taken) (cond b (get_or kinds i d ∷ []) [])
        ≡ cond b (finding language line text taken (get_or kinds i d) ∷ []) []
    of_one true = refl
    of_one false = refl

-- a kind is one of some where it has one of their numbers
numbered : (kinds : List FaultKind) (kind : FaultKind) → has_number (map fault_number kinds) kind ≡ is_one_of kinds kind
numbered [] kind = refl
numbered (other ∷ kinds) kind = ap (λ b. (fault_number other == fault_number kind) || b) (numbered kinds kind)

-- those of some that pass two tests, one after the other
filter_twice : (p q : FaultKind → Bool) (kinds : List FaultKind) → filter (λ kind. p kind && q kind) kinds ≡ filter p (filter q kinds)
filter_twice p q [] = refl
filter_twice p q (kind ∷ kinds) = by_tests (filter_twice p q kinds) (p kind) (q kind) refl
  where
    by_tests : filter (λ k. p k && q k) kinds ≡ filter p (filter q kinds) → (a b : Bool) → p kind ≡ a
        → cond (a && b) (kind ∷ filter (λ k. p k && q k) kinds) (filter (λ k. p k && q k) kinds)
        ≡ filter p (cond b (kind ∷ filter q kinds) (filter q kinds))
    by_tests rest true true is = ap (λ ks. kind ∷ ks) rest
        ∙ sym (ap (λ b. cond b (kind ∷ filter p (filter q kinds)) (filter p (filter q kinds))) is)
    by_tests rest true false is = rest
    by_tests rest false true is = rest ∙ sym (ap (λ b. cond b (kind ∷ filter p (filter q kinds)) (filter p (filter q kinds))) is)
    by_tests rest false false is = rest

filter_both : (p : FaultKind → Bool) (xs ys : List FaultKind) → filter p (xs ++ ys) ≡ filter p xs ++ filter p ys
filter_both p [] ys = refl
filter_both p (kind ∷ xs) ys = by_test (filter_both p xs ys) (p kind)
  where
    by_test : filter p (xs ++ ys) ≡ filter p xs ++ filter p ys → (b : Bool)
        → cond b (kind ∷ filter p (xs ++ ys)) (filter p (xs ++ ys)) ≡ cond b (kind ∷ filter p xs) (filter p xs) ++ filter p ys
    by_test rest true = ap (λ ks. kind ∷ ks) rest
    by_test rest false = rest

-- what is told of the kinds that have some numbers
abbrev told_by : Language → ℕ → List ℕ → Option ℕ → Doubt → List FaultKind → (FaultKind → Bool) → List Finding
told_by language line text taken d kinds stands = map (finding language line text taken)
    (filter (λ kind. stands kind && not (follows d kind)) kinds)

-- the same of the kinds with these numbers
told_by_numbers : (language : Language) (line : ℕ) (text : List ℕ) (taken : Option ℕ) (d : Doubt) (in_order standing : List FaultKind)
    (numbers : List ℕ) → numbers ≡ map fault_number standing
    → told_by language line text taken d in_order (has_number numbers) ≡ told_by language line text taken d in_order (is_one_of standing)
told_by_numbers language line text taken d in_order standing numbers same =
    ap (λ (ns : List ℕ). told_by language line text taken d in_order (has_number ns)) same
    ∙ ap (told_by language line text taken d in_order) (λ i kind. numbered standing kind i)

-- first what stands within the longest line, and then what stands past it
abbrev pub told_part : Language → ℕ → List ℕ → Option ℕ → Doubt → List ℕ → Bool → List Finding
told_part language line text taken d numbers beyond =
    map (finding language line text taken) (filter
    (λ kind. (has_number numbers kind && not (follows d kind)) && stands_beyond language text beyond kind) kinds_in_order)

pub told_parts : (language : Language) (line : ℕ) (text : List ℕ) (taken : Option ℕ) (d : Doubt) (numbers : List ℕ)
    → told_part language line text taken d numbers false ++ told_part language line text taken d numbers true
    ≡ told_by language line text taken d (kinds_on language text) (has_number numbers)
told_parts language line text taken d numbers =
    let tells : FaultKind → Bool = λ kind. has_number numbers kind && not (follows d kind) in
    let tell : List FaultKind → List Finding = map (finding language line text taken) in
    let within : List FaultKind = filter (λ kind. not (is_beyond language text kind)) kinds_in_order in
    let past : List FaultKind = filter (is_beyond language text) kinds_in_order in
    (λ i. tell (filter_twice tells (λ kind. not (is_beyond language text kind)) kinds_in_order i)
    ++ tell (filter_twice tells (is_beyond language text) kinds_in_order i))
    ∙ sym (map-append (finding language line text taken) (filter tells within) (filter tells past))
    ∙ ap tell (sym (filter_both tells within past))

-- what is told of the kinds with these numbers is told of the faults that have them
pub told_numbered : (language : Language) (line : ℕ) (text : List ℕ) (taken : Option ℕ) (d : Doubt) (standing : List FaultKind)
    (numbers : List ℕ) → numbers ≡ map fault_number standing
    → told_by language line text taken d (kinds_on language text) (has_number numbers) ≡ told_of language d line text taken standing
told_numbered language line text taken d standing numbers same =
    told_by_numbers language line text taken d (kinds_on language text) standing numbers same

-- a fault is told by its number alone
pub told_same : (language : Language) (line : ℕ) (text : List ℕ) (taken : Option ℕ) (d : Doubt) (kind : FaultKind)
    (standing : List FaultKind) → fault_number kind ∷ [] ≡ map fault_number standing
    → told_of language d line text taken (kind ∷ []) ≡ told_of language d line text taken standing
told_same language line text taken d kind standing same =
    sym (told_numbered language line text taken d (kind ∷ []) (fault_number kind ∷ []) refl)
    ∙ told_numbered language line text taken d standing (fault_number kind ∷ []) same

-- each kind stands once in the order
one_in_order : (kind : FaultKind) (p q : FaultKind → Bool)
    → filter (λ k. (is_one_of (kind ∷ []) k && p k) && q k) kinds_in_order ≡ cond (p kind && q kind) (kind ∷ []) []
one_in_order BadLabel p q = refl
one_in_order TwiceDefined p q = refl
one_in_order NotAscii p q = refl
one_in_order TooManyLines p q = refl
one_in_order UnknownOperator p q = refl
one_in_order BankFull p q = refl
one_in_order PlaceTaken p q = refl
one_in_order CodeInErasable p q = refl
one_in_order NeedsExtend p q = refl
one_in_order NotExtracode p q = refl
one_in_order BadOperand p q = refl
one_in_order Undefined p q = refl
one_in_order UsedTooEarly p q = refl
one_in_order BadBank p q = refl
one_in_order WrongKindOfAddress p q = refl
one_in_order OutOfRange p q = refl
one_in_order LongLine p q = refl
one_in_order NoMemory p q = refl

-- what is told of a fault that stands alone: the fault, unless it follows from another
pub told_alone : (language : Language) (line : ℕ) (text : List ℕ) (taken : Option ℕ) (d : Doubt) (kind : FaultKind)
    → told_of language d line text taken (kind ∷ []) ≡ cond (follows d kind) [] (finding language line text taken kind ∷ [])
told_alone language line text taken d kind =
    let tells : FaultKind → Bool = λ k. is_one_of (kind ∷ []) k && not (follows d k) in
    let tell : List FaultKind → List Finding = map (finding language line text taken) in
    let within : List FaultKind = filter (λ k. not (is_beyond language text k)) kinds_in_order in
    let past : List FaultKind = filter (is_beyond language text) kinds_in_order in
    ap tell (filter_both tells within past)
    ∙ (λ i. tell (sym (filter_twice tells (λ k. not (is_beyond language text k)) kinds_in_order) i
    ++ sym (filter_twice tells (is_beyond language text) kinds_in_order) i))
    ∙ (λ i. tell (one_in_order kind (λ k. not (follows d k)) (λ k. not (is_beyond language text k)) i
    ++ one_in_order kind (λ k. not (follows d k)) (is_beyond language text) i))
    ∙ by_tests (follows d kind) (is_beyond language text kind)
  where
    by_tests : (other beyond : Bool)
        → map (finding language line text taken) (cond (not other && not beyond) (kind ∷ []) [] ++ cond (not other && beyond) (kind ∷ []) [])
        ≡ cond other [] (finding language line text taken kind ∷ [])
    by_tests true true = refl
    by_tests true false = refl
    by_tests false true = refl
    by_tests false false = refl

twice_not : (b : Bool) → b ≡ not (not b)
twice_not true = refl
twice_not false = refl

-- nothing is told past the longest line, where all that is told stands within it
pub none_past : (language : Language) (line : ℕ) (text : List ℕ) (taken : Option ℕ) (d : Doubt) (numbers : List ℕ)
    → filter (λ kind. (has_number numbers kind && not (follows d kind)) && not (stands_beyond language text false kind)) kinds_in_order ≡ []
    → told_part language line text taken d numbers true ≡ []
none_past language line text taken d numbers none =
    ap (map (finding language line text taken))
    ((λ i. filter (λ kind. (has_number numbers kind && not (follows d kind)) && twice_not (is_beyond language text kind) i)
    kinds_in_order) ∙ none)

-- the numbers of the faults that stand on a line
numbers_of : (conditions : List (Option FaultKind)) → flat_map number_in conditions ≡ map fault_number (standing conditions)
numbers_of [] = refl
numbers_of (None ∷ conditions) = numbers_of conditions
numbers_of (Some kind ∷ conditions) = ap (λ numbers. fault_number kind ∷ numbers) (numbers_of conditions)

pub numbers_standing : (a f b p c : List (Option FaultKind))
    → flat_map number_in a ++ flat_map number_in f ++ flat_map number_in b ++ flat_map number_in p ++ flat_map number_in c
    ≡ map fault_number (standing a ++ standing f ++ standing b ++ standing p ++ standing c)
numbers_standing a f b p c =
    (λ i. numbers_of a i ++ numbers_of f i ++ numbers_of b i ++ numbers_of p i ++ numbers_of c i)
    ∙ sym (map-append fault_number (standing a ++ standing f ++ standing b ++ standing p) (standing c)
    ∙ ap (λ (front : List ℕ). front ++ map fault_number (standing c))
    (map-append fault_number (standing a ++ standing f ++ standing b) (standing p)
    ∙ ap (λ (front : List ℕ). front ++ map fault_number (standing p)) (map-append fault_number (standing a ++ standing f) (standing b)
    ∙ ap (λ (front : List ℕ). front ++ map fault_number (standing b)) (map-append fault_number (standing a) (standing f)))))
