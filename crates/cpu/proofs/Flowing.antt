-- What cells hold after changes, where they come from flows.
use Rattle.std.proofs.Common.{◌≡◌, ◌≢◌, ℕ, ◌+◌, ◌*◌, ◌/◌, ◌%◌, Bool, true, false, cond, ◌||◌, ◌&&◌, ◌==◌, List, [], ◌∷◌, ◌++◌, map, refl}
use Rattle.std.proofs.Common.{ap, ◌∙◌, sym, subst, arith, ⊎_elim}
use Rattle.std.specs.Prelude.{nat_le}
use Rattle.std.proofs.lemmas.Bool.Decides.{nat_tests}
use Rattle.std.proofs.lemmas.Bool.{cases_eq}
use Rattle.std.specs.FinMap as map'
use Rattle.words.specs.Numbers.{extend, correct}
use Rattle.words.specs.BitSums.{and_sum}
use Rattle.rope.specs.Places.{Words}
use Rattle.space.proofs.CellLaws.{same_get}
use Rattle.space.specs.Cells.{Cells, at, cycle_right, edit_opcode, get, put, kept, get_channel, put_channel}
use Rattle.space.specs.Cells.{channel_cell, superbank_channel, superbank_mask, both_banks, always_zero, return_address}
use Rattle.space.specs.Cells.{erasable_bank, fixed_bank, lower_accumulator, lower_accumulator_channel, return_address_channel}
use Rattle.space.specs.declared.place.Linear.{Linear}
use Rattle.space.specs.declared.place.Linear.TheVariants.{Erasable, Fixed}
use Rattle.cpu.specs.State.{State}
use Rattle.cpu.specs.Effects.{Change, change, changes, value_at, edits}
use Rattle.cpu.specs.Effects.Change.{AtPlace, OnChannel}
use Rattle.cpu.specs.declared.spot.Spot.{Spot}
use Rattle.cpu.specs.Links.{spot_word, Flow, to_place, place_cells, cell_of_channel, place_spots, channel_spots, spots, is_in, sources_by}
use Rattle.cpu.specs.Links.{edit_flows}
use Rattle.cpu.specs.declared.spot.Spot.TheVariants.{Cell}
use Rattle.cpu.proofs.Holding.{at-insert}
use Rattle.cpu.proofs.ChangeLaws.{changes_append}

-- the same stands at each spot
abbrev pub Agree : Words → State → Words → State → List Spot → Type 0
Agree r s o t [] = Unit {0}
Agree r s o t (x ∷ xs) = (spot_word r s x ≡ spot_word o t x) × Agree r s o t xs

pub agree_left : (r : Words) (s : State) (o : Words) (t : State) (xs ys : List Spot) → Agree r s o t (xs ++ ys) → Agree r s o t xs
agree_left r s o t [] ys e = tt
agree_left r s o t (x ∷ xs) ys e = (e.0, agree_left r s o t xs ys e.1)

pub agree_right : (r : Words) (s : State) (o : Words) (t : State) (xs ys : List Spot) → Agree r s o t (xs ++ ys) → Agree r s o t ys
agree_right r s o t [] ys e = e
agree_right r s o t (x ∷ xs) ys e = agree_right r s o t xs ys e.1

-- storing at a place, cell by cell
put_by : (s : Cells) (p u v w c : ℕ) (b d : Bool)
    → at (cond b (map'.insert (map'.insert s fixed_bank u) erasable_bank v) (cond d s (map'.insert s p w))) c
    ≡ cond b (cond (c == erasable_bank) v (cond (c == fixed_bank) u (at s c))) (cond d (at s c) (cond (c == p) w (at s c)))
put_by s p u v w c true d =
    at-insert (map'.insert s fixed_bank u) erasable_bank v c ∙ ap (λ x. cond (c == erasable_bank) v x) (at-insert s fixed_bank u c)
put_by s p u v w c false true = refl
put_by s p u v w c false false = at-insert s p w c

abbrev stored_by : ℕ → ℕ → ℕ → ℕ → ℕ
stored_by p x c old =
    cond (p == both_banks) (cond (c == erasable_bank) (correct x % 0o10) (cond (c == fixed_bank) (correct x / 0o2000) old))
    (cond (p == always_zero) old (cond (c == p) (kept p x) old))

put_cell : (s : Cells) (p x c : ℕ) → at (put s p x) c ≡ stored_by p x c (at s c)
unfolding put
put_cell s p x c = put_by s p (correct x / 0o2000) (correct x % 0o10) (kept p x) c (p == both_banks) (p == always_zero)

-- a cell that is reached holds the same, whatever it held
hit_by : (b d e f g : Bool) (u v w x y : ℕ) (p : ℕ) → (h : Bool) → h ≡ true
    → (cond b (f || (e || false)) (cond d false (g || false))) ≡ h
    → cond b (cond e v (cond f u x)) (cond d x (cond g w x)) ≡ cond b (cond e v (cond f u y)) (cond d y (cond g w y))
hit_by true d true f g u v w x y p h k m = refl
hit_by true d false true g u v w x y p h k m = refl
hit_by true d false false g u v w x y p h k m = absurd (cc)
hit_by false true e f g u v w x y p h k m = absurd (cc)
hit_by false false e f true u v w x y p h k m = refl
hit_by false false e f false u v w x y p h k m = absurd (cc)

miss_by : (b d e f g : Bool) (u v w x : ℕ) → (h : Bool) → h ≡ false
    → (cond b (f || (e || false)) (cond d false (g || false))) ≡ h
    → cond b (cond e v (cond f u x)) (cond d x (cond g w x)) ≡ x
miss_by true d true true g u v w x h k m = absurd (cc)
miss_by true d true false g u v w x h k m = absurd (cc)
miss_by true d false true g u v w x h k m = absurd (cc)
miss_by true d false false g u v w x h k m = refl
miss_by false true e f g u v w x h k m = refl
miss_by false false e f true u v w x h k m = absurd (cc)
miss_by false false e f false u v w x h k m = refl

in_cells : (c p : ℕ) (b d : Bool)
    → is_in c (cond b (fixed_bank ∷ erasable_bank ∷ []) (cond d [] (p ∷ [])))
    ≡ cond b ((c == fixed_bank) || ((c == erasable_bank) || false)) (cond d false ((c == p) || false))
in_cells c p true d = refl
in_cells c p false true = refl
in_cells c p false false = refl

pub put_hit : (s t : Cells) (p x c : ℕ) → is_in c (place_cells p) ≡ true → at (put s p x) c ≡ at (put t p x) c
put_hit s t p x c h =
    put_cell s p x c
    ∙ hit_by (p == both_banks) (p == always_zero) (c == erasable_bank) (c == fixed_bank) (c == p) (correct x / 0o2000) (correct x % 0o10)
    (kept p x) (at s c) (at t c) p
    (is_in c (place_cells p)) h (sym (in_cells c p (p == both_banks) (p == always_zero)))
    ∙ sym (put_cell t p x c)

pub put_miss : (s : Cells) (p x c : ℕ) → is_in c (place_cells p) ≡ false → at (put s p x) c ≡ at s c
put_miss s p x c h =
    put_cell s p x c
    ∙ miss_by (p == both_banks) (p == always_zero) (c == erasable_bank) (c == fixed_bank) (c == p) (correct x / 0o2000) (correct x % 0o10)
    (kept p x) (at s c)
    (is_in c (place_cells p)) h (sym (in_cells c p (p == both_banks) (p == always_zero)))

-- the same of a channel
insert_by : (s t : Cells) (k v c : ℕ) (b : Bool) → (c == k) ≡ b → (b || false) ≡ true → at (map'.insert s k v) c ≡ at (map'.insert t k v) c
insert_by s t k v c true e h =
    at-insert s k v c ∙ ap (λ x. cond x v (at s c)) e ∙ sym (at-insert t k v c ∙ ap (λ x. cond x v (at t c)) e)
insert_by s t k v c false e h = absurd (cc)

insert_hit : (s t : Cells) (k v c : ℕ) → is_in c (k ∷ []) ≡ true → at (map'.insert s k v) c ≡ at (map'.insert t k v) c
insert_hit s t k v c h = insert_by s t k v c (c == k) refl h

or_false : (b : Bool) → (b || false) ≡ false → b ≡ false
or_false true h = absurd (cc)
or_false false h = refl

insert_miss : (s : Cells) (k v c : ℕ) → is_in c (k ∷ []) ≡ false → at (map'.insert s k v) c ≡ at s c
insert_miss s k v c h = at-insert s k v c ∙ ap (λ x. cond x v (at s c)) (or_false (c == k) h)

abbrev put_channel_by : Cells → ℕ → ℕ → Bool → Bool → Bool → Cells
put_channel_by s n x b d e =
    cond b (put s lower_accumulator x) (cond d (put s return_address x)
    (cond e (map'.insert s (channel_cell n) (and_sum 15 (correct x) superbank_mask)) (map'.insert s (channel_cell n) (correct x))))

abbrev cell_by : ℕ → Bool → Bool → ℕ
cell_by n b d = cond b lower_accumulator (cond d return_address (channel_cell n))

channel_hit_by : (s t : Cells) (n x c : ℕ) (b d e : Bool) → is_in c (cell_by n b d ∷ []) ≡ true
    → at (put_channel_by s n x b d e) c ≡ at (put_channel_by t n x b d e) c
channel_hit_by s t n x c true d e h = put_hit s t lower_accumulator x c h
channel_hit_by s t n x c false true e h = put_hit s t return_address x c h
channel_hit_by s t n x c false false true h = insert_hit s t (channel_cell n) _ c h
channel_hit_by s t n x c false false false h = insert_hit s t (channel_cell n) _ c h

channel_miss_by : (s : Cells) (n x c : ℕ) (b d e : Bool) → is_in c (cell_by n b d ∷ []) ≡ false → at (put_channel_by s n x b d e) c ≡ at s c
channel_miss_by s n x c true d e h = put_miss s lower_accumulator x c h
channel_miss_by s n x c false true e h = put_miss s return_address x c h
channel_miss_by s n x c false false true h = insert_miss s (channel_cell n) _ c h
channel_miss_by s n x c false false false h = insert_miss s (channel_cell n) _ c h

pub channel_hit : (s t : Cells) (n x c : ℕ) → is_in c (cell_of_channel n ∷ []) ≡ true → at (put_channel s n x) c ≡ at (put_channel t n x) c
unfolding put_channel
channel_hit s t n x c h = channel_hit_by s t n x c (n == lower_accumulator_channel) (n == return_address_channel) (n == superbank_channel) h

pub channel_miss : (s : Cells) (n x c : ℕ) → is_in c (cell_of_channel n ∷ []) ≡ false → at (put_channel s n x) c ≡ at s c
unfolding put_channel
channel_miss s n x c h = channel_miss_by s n x c (n == lower_accumulator_channel) (n == return_address_channel) (n == superbank_channel) h

-- where the same stands at the spots of a place, the same is read there
one_by : (r : Words) (s : State) (o : Words) (t : State) (p : ℕ) (b d : Bool) → b ≡ false → d ≡ false
    → Agree r s o t (map (λ c. Cell c) (cond b (fixed_bank ∷ erasable_bank ∷ []) (cond d [] (p ∷ [])))) → at s.cells p ≡ at t.cells p
one_by r s o t p true d h k e = absurd (cc)
one_by r s o t p false true h k e = absurd (cc)
one_by r s o t p false false h k e = e.0

same_banks : (r : Words) (s : State) (o : Words) (t : State) → Agree r s o t (place_spots both_banks)
    → get s.cells both_banks ≡ get t.cells both_banks
unfolding get
same_banks r s o t e = λ i. extend (e.0 i * 0o2000 + e.1.0 i)

same_zero : (s t : Cells) → get s always_zero ≡ get t always_zero
unfolding get
same_zero s t = refl

pub get_same : (r : Words) (s : State) (o : Words) (t : State) (p : ℕ) → Agree r s o t (place_spots p) → get s.cells p ≡ get t.cells p
get_same r s o t p e =
    ⊎_elim
    (λ (is : p ≡ both_banks).
    subst (λ p. get s.cells p ≡ get t.cells p) (sym is) (same_banks r s o t (subst (λ p. Agree r s o t (place_spots p)) is e)))
    (λ (n6 : p ≢ both_banks).
    ⊎_elim
    (λ (is : p ≡ always_zero). subst (λ p. get s.cells p ≡ get t.cells p) (sym is) (same_zero s.cells t.cells))
    (λ (n7 : p ≢ always_zero).
    let b : (p == both_banks) ≡ false = grind (arith, nat_tests) in
    let d : (p == always_zero) ≡ false = grind (arith, nat_tests) in
    same_get s.cells t.cells p n6 (one_by r s o t p (p == both_banks) (p == always_zero) b d e))
    (cases_eq p always_zero))
    (cases_eq p both_banks)

pub value_same : (r : Words) (s : State) (o : Words) (t : State) (x : Linear) → Agree r s o t (spots x) → value_at r s x ≡ value_at o t x
unfolding value_at
value_same r s o t (Erasable p) e = get_same r s o t p e
value_same r s o t (Fixed bank offset) e = ap (λ w. extend w) e.0

channel_by : (r : Words) (s : State) (o : Words) (t : State) (n : ℕ) (b d : Bool) → at s.cells (cell_by n b d) ≡ at t.cells (cell_by n b d)
    → cond b (get s.cells lower_accumulator) (cond d (get s.cells return_address) (extend (at s.cells (channel_cell n))))
    ≡ cond b (get t.cells lower_accumulator) (cond d (get t.cells return_address) (extend (at t.cells (channel_cell n))))
channel_by r s o t n true d e = get_same r s o t lower_accumulator (e, tt)
channel_by r s o t n false true e = get_same r s o t return_address (e, tt)
channel_by r s o t n false false e = ap (λ w. extend w) e

pub channel_same : (r : Words) (s : State) (o : Words) (t : State) (n : ℕ) → Agree r s o t (channel_spots n)
    → get_channel s.cells n ≡ get_channel t.cells n
unfolding get_channel
channel_same r s o t n e = channel_by r s o t n (n == lower_accumulator_channel) (n == return_address_channel) e.0

-- where two states agree on the sources of a cell, it holds the same after changes of each
abbrev pub Tracks : Words → State → Words → State → (ℕ → List Spot) → State → State → Type 0
Tracks r s o t from u v = (c : ℕ) → Agree r s o t (from c) → at u.cells c ≡ at v.cells c

-- each cell is its own source
abbrev pub here : ℕ → List Spot
here c = Cell c ∷ []

pub tracks_start : (r : Words) (s : State) (o : Words) (t : State) → Tracks r s o t here s t
tracks_start r s o t = λ c e. e.0

place_step : (r : Words) (s : State) (o : Words) (t : State) (from before : List Spot) (u v : State) (p x y c : ℕ) (b : Bool)
    → is_in c (place_cells p) ≡ b
    → (Agree r s o t before → at u.cells c ≡ at v.cells c) → (Agree r s o t from → x ≡ y) → Agree r s o t (cond b from before)
    → at (put u.cells p x) c ≡ at (put v.cells p y) c
place_step r s o t from before u v p x y c true h old new e = put_hit u.cells v.cells p x c h ∙ ap (λ w. at (put v.cells p w) c) (new e)
place_step r s o t from before u v p x y c false h old new e = put_miss u.cells p x c h ∙ old e ∙ sym (put_miss v.cells p y c h)

pub tracks_place : (r : Words) (s : State) (o : Words) (t : State) (before : ℕ → List Spot) (from : List Spot) (u v : State) (p x y : ℕ)
    → Tracks r s o t before u v → (Agree r s o t from → x ≡ y)
    → Tracks r s o t (λ c. cond (is_in c (place_cells p)) from (before c)) (change u (AtPlace p x)) (change v (AtPlace p y))
tracks_place r s o t before from u v p x y old new = λ c e. place_step r s o t from (before c) u v p x y c (is_in c (place_cells p)) refl
    (old c) new e

channel_step : (r : Words) (s : State) (o : Words) (t : State) (from before : List Spot) (u v : State) (n x y c : ℕ) (b : Bool)
    → is_in c (cell_of_channel n ∷ []) ≡ b
    → (Agree r s o t before → at u.cells c ≡ at v.cells c) → (Agree r s o t from → x ≡ y) → Agree r s o t (cond b from before)
    → at (put_channel u.cells n x) c ≡ at (put_channel v.cells n y) c
channel_step r s o t from before u v n x y c true h old new e = channel_hit u.cells v.cells n x c h
    ∙ ap (λ w. at (put_channel v.cells n w) c) (new e)
channel_step r s o t from before u v n x y c false h old new e = channel_miss u.cells n x c h ∙ old e ∙ sym (channel_miss v.cells n y c h)

pub tracks_channel : (r : Words) (s : State) (o : Words) (t : State) (before : ℕ → List Spot) (from : List Spot) (u v : State) (n x y : ℕ)
    → Tracks r s o t before u v → (Agree r s o t from → x ≡ y)
    → Tracks r s o t (λ c. cond (is_in c (cell_of_channel n ∷ [])) from (before c)) (change u (OnChannel n x)) (change v (OnChannel n y))
tracks_channel r s o t before from u v n x y old new = λ c e. channel_step r s o t from (before c) u v n x y c
    (is_in c (cell_of_channel n ∷ [])) refl (old c) new e

edits_by : (r : Words) (s : State) (o : Words) (t : State) (before : ℕ → List Spot) (u v : State) (p x y : ℕ) (b : Bool)
    → Tracks r s o t before u v → (Agree r s o t (place_spots p) → x ≡ y)
    → Tracks r s o t (λ c. sources_by (cond b (to_place p (place_spots p) ∷ []) []) c (before c)) (changes u (cond b (AtPlace p x ∷ []) []))
    (changes v (cond b (AtPlace p y ∷ []) []))
edits_by r s o t before u v p x y true old new = tracks_place r s o t before (place_spots p) u v p x y old new
edits_by r s o t before u v p x y false old new = old

pub tracks_edits : (r : Words) (s : State) (o : Words) (t : State) (before : ℕ → List Spot) (u v : State) (l : Linear) (x y : ℕ)
    → Tracks r s o t before u v → (Agree r s o t (spots l) → x ≡ y)
    → Tracks r s o t (λ c. sources_by (edit_flows l) c (before c)) (changes u (edits l x)) (changes v (edits l y))
unfolding edits
tracks_edits r s o t before u v (Erasable p) x y old new = edits_by r s o t before u v p x y (nat_le cycle_right p && nat_le p edit_opcode)
    old new
tracks_edits r s o t before u v (Fixed bank offset) x y old new = old

-- flows after flows
pub sources_append : (fs gs : List Flow) (c : ℕ) (from : List Spot) → sources_by (fs ++ gs) c from ≡ sources_by gs c (sources_by fs c from)
sources_append [] gs c from = refl
sources_append (f ∷ fs) gs c from = sources_append fs gs c (cond (is_in c f.into) f.from from)

-- a change by what is read at a place, which is stored there again where the place edits
pub tracks_reading : (r : Words) (s : State) (o : Words) (t : State) (flows : Linear → List Flow) (f g : Linear → ℕ → List Change)
    → ((l : Linear) → (Agree r s o t (spots l) → value_at r s l ≡ value_at o t l)
    → Tracks r s o t (λ c. sources_by (flows l) c (here c)) (changes s (f l (value_at r s l))) (changes t (g l (value_at o t l))))
    → (l m n : Linear) → m ≡ l → n ≡ l
    → Tracks r s o t (λ c. sources_by (flows l ++ edit_flows l) c (here c))
    (changes s (f m (value_at r s m) ++ edits m (value_at r s m))) (changes t (g n (value_at o t n) ++ edits n (value_at o t n)))
tracks_reading r s o t flows f g each l m n e d =
    subst (λ m. Tracks r s o t (λ c. sources_by (flows l ++ edit_flows l) c (here c))
    (changes s (f m (value_at r s m) ++ edits m (value_at r s m))) (changes t (g n (value_at o t n) ++ edits n (value_at o t n)))) (sym e)
    (subst (λ n. Tracks r s o t (λ c. sources_by (flows l ++ edit_flows l) c (here c))
    (changes s (f l (value_at r s l) ++ edits l (value_at r s l))) (changes t (g n (value_at o t n) ++ edits n (value_at o t n)))) (sym d)
    (λ c h.
    ap (λ (w : State). at w.cells c) (changes_append (f l (value_at r s l)) (edits l (value_at r s l)) s)
    ∙ tracks_edits r s o t (λ c. sources_by (flows l) c (here c)) (changes s (f l (value_at r s l))) (changes t (g l (value_at o t l))) l
    (value_at r s l) (value_at o t l) (each l (value_same r s o t l)) (value_same r s o t l) c
    (subst (λ xs. Agree r s o t xs) (sources_append (flows l) (edit_flows l) c (here c)) h)
    ∙ ap (λ (w : State). at w.cells c) (sym (changes_append (g l (value_at o t l)) (edits l (value_at o t l)) t))))
