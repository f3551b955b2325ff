use Rattle.std.proofs.Common.{◌≡◌, ◌≢◌, ℕ, zero, suc, ◌+◌, ◌<◌, List, [], ◌∷◌, ◌++◌, length, map, get_or, set, take, drop, inl, inr, refl}
use Rattle.std.proofs.Common.{sym, ◌∙◌, ap, arith, length-append, length-set}
use Rattle.std.specs.List.{All, AllPairs, AllWithin, remove}
use Rattle.std.proofs.lemmas.Bool.{cases_lt}
use Rattle.std.proofs.lemmas.List.{get_or-map, length-map, map-append, get_or-set_same, get_or-set_other, get_or_append_left, get_or_read}
use Rattle.std.proofs.lemmas.List.Elements.{All-contains, All-push, All-append, All-take, All-drop, All-head, All-tail, Contains-push}
use Rattle.std.proofs.lemmas.List.Quantifiers.{all_pairs_push, all_pairs_remove}
use Rattle.std.proofs.lemmas.List.Edits.{length-remove, get_or-remove_below, get_or-remove_above}
use Rattle.cpu.specs.State.{State, start}
use Rattle.replay.specs.Images.{Image, IsRising, steps, without}
use Rattle.replay.specs.Slots.{IsSlotted, image_at, images_in}
use Rattle.replay.proofs.ImageLemmas.{without-place}

images_in-set : (slots : List State) (s : ℕ) (x : State) (entries : List (ℕ × ℕ)) → All (λ m. m.1 ≢ s) entries
    → images_in (set slots s x) entries ≡ images_in slots entries
images_in-set slots s x [] h = refl
images_in-set slots s x (m ∷ entries) h =
    let ne = All-head (λ (m : ℕ × ℕ). m.1 ≢ s) m entries h in
    rw (get_or-set_other slots s m.1 x start ne, images_in-set slots s x entries (All-tail (λ (m : ℕ × ℕ). m.1 ≢ s) m entries h)) refl

-- the slot that was taken was unused
taken_unused : (slots : List State) (entries : List (ℕ × ℕ)) (free rest : List ℕ) (s : ℕ) → IsSlotted slots entries free
    → free ≡ rest ++ s ∷ [] → All (λ m. m.1 ≢ s) entries
taken_unused slots entries free rest s h e = All-contains (λ (t : ℕ). All (λ (m : ℕ × ℕ). m.1 ≢ t) entries) free s h.unused
    (rw e (Contains-push rest s))

-- an image is kept in a free slot
pub images_taken : (slots : List State) (entries : List (ℕ × ℕ)) (free rest : List ℕ) (s step : ℕ) (x : State)
    → IsSlotted slots entries free → free ≡ rest ++ s ∷ []
    → images_in (set slots s x) (entries ++ (step, s) ∷ []) ≡ images_in slots entries ++ (step, x) ∷ []
images_taken slots entries free rest s step x h e =
    let low = All-contains (λ (t : ℕ). t < 79) free s h.free_in (rw e (Contains-push rest s)) in
    let in_range : s < length slots = omega (arith, h.all_slots) in
    let unused = taken_unused slots entries free rest s h e in
    rw (map-append, images_in-set slots s x entries unused, get_or-set_same slots s x start in_range) refl

front_pairs : (xs : List ℕ) (s : ℕ) → AllPairs (λ a b. a ≢ b) (xs ++ s ∷ []) → AllPairs (λ a b. a ≢ b) xs
front_pairs xs s h i j d before below =
    let low : i < length xs = omega arith in
    rw (get_or_append_left xs (s ∷ []) d i low, get_or_append_left xs (s ∷ []) d j below) at
    (h i j d before (omega (arith, length-append xs (s ∷ []))))

last_at : (xs : List ℕ) (s d : ℕ) → get_or (xs ++ s ∷ []) (length xs) d ≡ s
last_at [] s d = refl
last_at (x ∷ xs) s d = last_at xs s d

pub slotted_taken : (slots : List State) (entries : List (ℕ × ℕ)) (free rest : List ℕ) (s step : ℕ) (x : State)
    → IsSlotted slots entries free → free ≡ rest ++ s ∷ [] → All (λ i. i.0 < step) (images_in slots entries)
    → IsSlotted (set slots s x) (entries ++ (step, s) ∷ []) rest
slotted_taken slots entries free rest s step x h e above =
    let unused = taken_unused slots entries free rest s h e in
    let pairs : AllPairs (λ a b. a ≢ b) (rest ++ s ∷ []) = rw e at h.free_apart in
    let unused_all : All (λ t. All (λ m. m.1 ≢ t) entries) (rest ++ s ∷ []) = rw e at h.unused in
    let free_all : All (λ t. t < 79) (rest ++ s ∷ []) = rw e at h.free_in in
    let low : s < 79 = All-contains (λ (t : ℕ). t < 79) (rest ++ s ∷ []) s free_all (Contains-push rest s) in
    let n : length (rest ++ s ∷ []) ≡ length rest + 1 = length-append rest (s ∷ []) in
    let m : length (entries ++ (step, s) ∷ []) ≡ length entries + 1 = length-append entries ((step, s) ∷ []) in
    let c : length entries + length (rest ++ s ∷ []) ≡ 79 = rw e at h.counted in
    record {
      all_slots = length-set slots s x ∙ h.all_slots;
      rising = rw (images_taken slots entries free rest s step x h e)
          (all_pairs_push (λ (i j : Image). i.0 < j.0) (images_in slots entries) (step, x) h.rising (λ k d below. above k d below));
      apart = all_pairs_push (λ (m n : ℕ × ℕ). m.1 ≢ n.1) entries (step, s) h.apart (λ k d below. unused k d below);
      free_apart = front_pairs rest s pairs;
      unused = λ k d below.
          let here : All (λ m. m.1 ≢ get_or rest k d) entries = rw (get_or_append_left rest (s ∷ []) d k below) at
          (unused_all k d (omega arith)) in
          All-push (λ (m : ℕ × ℕ). m.1 ≢ get_or rest k d) entries (step, s) here
          (λ same. pairs k (length rest) d below (omega arith)
          (get_or_append_left rest (s ∷ []) d k below ∙ sym same ∙ sym (last_at rest s d)));
      entries_in = All-push (λ (m : ℕ × ℕ). m.1 < 79) entries (step, s) h.entries_in low;
      free_in = λ k d below. rw (get_or_append_left rest (s ∷ []) d k below) at (free_all k d (omega arith));
      counted = omega arith;
    }

All-remove : {X : Type 0} (P : X → Type 0) (xs : List X) (k : ℕ) → All P xs → All P (remove xs k)
All-remove P xs k h = All-append P (take k xs) (drop (suc k) xs) (All-take P k xs h) (All-drop P (suc k) xs h)

images_in-remove : (slots : List State) (entries : List (ℕ × ℕ)) (k : ℕ)
    → images_in slots (remove entries k) ≡ remove (images_in slots entries) k
images_in-remove slots [] zero = refl
images_in-remove slots [] (suc k) = refl
images_in-remove slots (m ∷ entries) zero = refl
images_in-remove slots (m ∷ entries) (suc k) = ap (λ (rest : List Image). image_at slots m ∷ rest) (images_in-remove slots entries k)

pub slotted_removed : (slots : List State) (entries : List (ℕ × ℕ)) (free : List ℕ) (k : ℕ) (m : ℕ × ℕ) → IsSlotted slots entries free
    → k < length entries → m ≡ get_or entries k m → IsSlotted slots (remove entries k) (free ++ m.1 ∷ [])
slotted_removed slots entries free k m h in_range is =
    let slot_is = ap (λ (m : ℕ × ℕ). m.1) is in
    let n : length (free ++ m.1 ∷ []) ≡ length free + 1 = length-append free (m.1 ∷ []) in
    let low : m.1 < 79 = rw (← is) at (h.entries_in k m in_range) in
    let not_free : (j d : ℕ) → j < length free → get_or free j d ≢ m.1 = λ j d below same. h.unused j d below k m in_range
    (ap (λ (q : ℕ × ℕ). q.1) (sym is) ∙ sym same) in
    record {
      all_slots = h.all_slots;
      rising = rw (images_in-remove slots entries k)
          (all_pairs_remove (λ (i j : Image). i.0 < j.0) (images_in slots entries) k (rw length-map in_range) h.rising);
      apart = all_pairs_remove (λ (m n : ℕ × ℕ). m.1 ≢ n.1) entries k in_range h.apart;
      free_apart = all_pairs_push (λ (a b : ℕ). a ≢ b) free m.1 h.free_apart not_free;
      unused = All-push (λ (s : ℕ). All (λ (q : ℕ × ℕ). q.1 ≢ s) (remove entries k)) free m.1
          (λ j d below. All-remove (λ (q : ℕ × ℕ). q.1 ≢ get_or free j d) entries k (h.unused j d below))
          (λ j d below same. elim (cases_lt j k) [
            | inl early ↦ h.apart j k d early in_range
                (ap (λ (q : ℕ × ℕ). q.1) (sym (get_or-remove_below entries k d j early in_range)) ∙ same
                ∙ ap (λ (q : ℕ × ℕ). q.1) (get_or_read entries k m in_range is d))
            | inr late ↦ h.apart k (j + 1) d (omega arith) (omega (arith, length-remove entries k in_range))
                (ap (λ (q : ℕ × ℕ). q.1) (sym (get_or_read entries k m in_range is d)) ∙ sym same
                ∙ ap (λ (q : ℕ × ℕ). q.1) (get_or-remove_above entries k d j late in_range))
          ]);
      entries_in = All-remove (λ (q : ℕ × ℕ). q.1 < 79) entries k h.entries_in;
      free_in = All-push (λ (s : ℕ). s < 79) free m.1 h.free_in low;
      counted = omega (arith, length-remove entries k in_range, h.counted);
    }

pub images_removed : (slots : List State) (entries : List (ℕ × ℕ)) (k step : ℕ) → IsRising (images_in slots entries) → k < length entries
    → (get_or entries k (0, 0)).0 ≡ step → images_in slots (remove entries k) ≡ without (images_in slots entries) step
images_removed slots entries k step rising in_range is =
    let d = image_at slots (0, 0) in
    let at_k : get_or (images_in slots entries) k d
    ≡ image_at slots (get_or entries k (0, 0)) = get_or-map (image_at slots) entries k (0, 0) d in_range in
    images_in-remove slots entries k ∙ without-place (images_in slots entries) k step d rising (rw length-map in_range)
    (ap (λ (i : Image). i.0) at_k ∙ is)

pub later_images : (slots : List State) (entries : List (ℕ × ℕ)) (t low : ℕ) → AllWithin (λ m. t < m.0) entries low (length entries)
    → AllWithin (λ i. t < i.0) (images_in slots entries) low (length (images_in slots entries))
later_images slots entries t low h k d above below =
    let in_range : k < length entries = rw length-map at below in
    rw (get_or-map (image_at slots) entries k (0, 0) d in_range) (h k (0, 0) above in_range)

-- the images are of the steps of the marks
pub steps-images_in : (slots : List State) (entries : List (ℕ × ℕ)) → steps (images_in slots entries) ≡ map (λ m. m.0) entries
steps-images_in slots [] = refl
steps-images_in slots (m ∷ entries) = ap (λ (rest : List ℕ). m.0 ∷ rest) (steps-images_in slots entries)

pub image_is : (slots : List State) (entries : List (ℕ × ℕ)) (k : ℕ) (x : State) (d : Image) → k < length entries
    → (get_or entries k (0, 0)).1 < length slots → x ≡ get_or slots (get_or entries k (0, 0)).1 x
    → let c : Image = ((get_or entries k (0, 0)).0, x) in c ≡ get_or (images_in slots entries) k d
image_is slots entries k x d in_range slot_in is =
    rw (get_or-map (image_at slots) entries k (0, 0) d in_range)
    (ap (λ (y : State). let c : Image = ((get_or entries k (0, 0)).0, y) in c)
    (get_or_read slots (get_or entries k (0, 0)).1 x slot_in is start))
