-- What the code holds, from line to line.
use Rattle.std.proofs.Common.{◌≡◌, ◌≢◌, ℕ, ◌+◌, ◌<◌, ◌≤◌, false, ◌==◌, List, [], ◌∷◌, ◌++◌, replicate, Option, None, Err, cond, inl, inr}
use Rattle.std.proofs.Common.{refl, ap, sym, subst, ◌∙◌, append-nil}
use Rattle.std.proofs.lemmas.Bool.{or_parts}
use Rattle.std.proofs.lemmas.List.Folds.{list_any-append}
use Rattle.std.proofs.lemmas.List.Elements.{All-nil, All-push, All-weaker, filter-append}
use Rattle.std.specs.List.{filter}
use Rattle.std.specs.Result.{result_unwrap_or}
use Rattle.rope.specs.Places.{Words, banks, bank_words, no_words, with_words}
use Rattle.yayul.specs.Layout.{Request, width, on_line}
use Rattle.yayul.specs.Words.{request_words, request_faults}
use Rattle.yayul.specs.Program.{placed_from, least}
use Rattle.yayul.specs.Language.{Fault, Undefined, Value}
use Rattle.yayul.specs.Inside.Answers.{least_kind}
use Rattle.yayul.specs.Inside.Sound.{AreBelow, AreOrdered, AreWithin, meets}
use Rattle.yayul.specs.Inside.Waiting.{is_waiting, standing_rope, standing_faults, lesser_on, Holds, AreKnown}
use Rattle.yayul.proofs.LineRequests.{ordered-next}
use Rattle.yayul.proofs.AlikeWaiting.{AreOff, off-below, off-filter, none_waits, last_waits, WaitAlike, alike-last, filter-alike, places}
use Rattle.yayul.proofs.AlikeWaiting.{words-waiting, words-settled, places-alike, faults-alike, faults-append, faults-settled}
use Rattle.yayul.proofs.AlikeWaiting.{faults-waiting, faults-none, faults-off}
use Rattle.yayul.proofs.RequestFault.{told_last}
use Rattle.yayul.proofs.TakenPlaces.{with_words-more}

-- before the first line
pub holds-start : (table : List (List ℕ × Value)) → Holds 1 table [] [] no_words None
unfolding standing_rope standing_faults
holds-start table = record {
  ordered = record { rising = tt; apart = tt; below = tt };
  within = All-nil _;
  waits = refl;
  rope = refl;
  fault
      = refl;
}

pub known-start : (table : List (List ℕ × Value)) → AreKnown table [] []
known-start table = All-nil _

-- after a line that asks for no words
pub holds-next : (line : ℕ) (table : List (List ℕ × Value)) (rs waiting : List Request) (rope : Words) (told : Option Fault)
    → Holds line table rs waiting rope told → Holds (line + 1) table rs waiting rope told
holds-next line table rs waiting rope told h =
    record { ordered = ordered-next line rs rs h.ordered (inl refl); within = h.within; waits = h.waits; rope = h.rope; fault = h.fault }

module _ (line : ℕ) (table : List (List ℕ × Value)) (rs waiting : List Request) (rope : Words) (told : Option Fault) (r : Request)
    (h : Holds line table rs waiting rope told) (on : r.line ≡ line) where
  -- the requests before are of other lines
  before : AreOff r.line rs
  before = off-below r.line rs (subst (λ (n : ℕ). AreBelow n rs) (sym on) h.ordered.below)

  -- those that wait are among them
  new_settled : is_waiting waiting r ≡ false
  new_settled = none_waits waiting r (subst (AreOff r.line) (sym h.waits) (off-filter r.line (is_waiting waiting) rs before))

  next_ordered : meets rs r ≡ false → AreOrdered (line + 1) (rs ++ r ∷ [])
  next_ordered apart = ordered-next line rs (rs ++ r ∷ []) h.ordered (inr (r, (refl, (on, apart))))

  next_within : r.bank < banks → r.offset + width r.content ≤ bank_words → AreWithin (rs ++ r ∷ [])
  next_within in_banks room = All-push (λ q. (q.bank < banks) × (q.offset + width q.content ≤ bank_words)) rs r h.within (in_banks, room)

  -- after a line that asks for words, which are made at once, or zeros where they have a fault
  pub holds-settled : meets rs r ≡ false → r.bank < banks → r.offset + width r.content ≤ bank_words
      → Holds (line + 1) table (rs ++ r ∷ []) waiting
      (with_words rope (placed_from r.bank r.offset (result_unwrap_or (request_words table r) (replicate (width r.content) 0))))
      (lesser_on told line (least_kind (request_faults table r)))
  unfolding standing_rope
  holds-settled apart in_banks room =
      record {
        ordered = next_ordered apart;
        within = next_within in_banks room;
        waits = h.waits ∙ sym (append-nil (filter (is_waiting waiting) rs))
            ∙ ap (λ some. filter (is_waiting waiting) rs ++ some) (sym (ap (λ waits. cond waits (r ∷ []) []) new_settled))
            ∙ sym (filter-append (is_waiting waiting) rs (r ∷ []));
        rope = ap (λ words. with_words words (placed_from r.bank r.offset
            (result_unwrap_or (request_words table r) (replicate (width r.content) 0)))) h.rope
            ∙ ap (λ words. with_words (standing_rope table waiting rs) (placed_from r.bank r.offset words))
            (sym (words-settled table waiting r new_settled))
            ∙ sym (with_words-more no_words (places table waiting) rs r);
        fault = ap (λ first. lesser_on first line (least_kind (request_faults table r))) h.fault
            ∙ ap (λ n. lesser_on (least (standing_faults table waiting rs)) n (least_kind (request_faults table r))) (sym on)
            ∙ sym (told_last r.line (standing_faults table waiting rs) (request_faults table r) (faults-off table r.line waiting rs before))
            ∙ ap (λ fs. least (standing_faults table waiting rs ++ fs))
            (sym (faults-settled table waiting r [] new_settled
            ∙ ap (λ fs. on_line r.line (request_faults table r) ++ fs) (faults-none table waiting)
            ∙ append-nil (on_line r.line (request_faults table r))))
            ∙ ap least (sym (faults-append table waiting rs (r ∷ [])));
      }

  pub known-settled : AreKnown table waiting rs → request_words table r ≢ Err Undefined → AreKnown table waiting (rs ++ r ∷ [])
  known-settled known defined = All-push (λ q. is_waiting waiting q ≡ false → request_words table q ≢ Err Undefined) rs r known
      (λ settled. defined)

  -- after a line whose words wait: zeros hold their places
  pub holds-put_aside : meets rs r ≡ false → r.bank < banks → r.offset + width r.content ≤ bank_words
      → Holds (line + 1) table (rs ++ r ∷ []) (waiting ++ r ∷ [])
      (with_words rope (placed_from r.bank r.offset (replicate (width r.content) 0))) told
  unfolding standing_rope
  holds-put_aside apart in_banks room =
      let more : List Request = waiting ++ r ∷ [] in
      let alike : WaitAlike more waiting rs = alike-last waiting r rs before in
      record {
        ordered = next_ordered apart;
        within = next_within in_banks room;
        waits = ap (λ some. some ++ r ∷ []) (h.waits ∙ sym (filter-alike more waiting rs alike))
            ∙ ap (λ some. filter (is_waiting more) rs ++ some) (sym (ap (λ waits. cond waits (r ∷ []) []) (last_waits waiting r)))
            ∙ sym (filter-append (is_waiting more) rs (r ∷ []));
        rope = ap (λ words. with_words words (placed_from r.bank r.offset (replicate (width r.content) 0))) h.rope
            ∙ ap (λ ps. with_words (with_words no_words ps) (placed_from r.bank r.offset (replicate (width r.content) 0)))
            (sym (places-alike table more waiting rs alike))
            ∙ ap (λ words. with_words (standing_rope table more rs) (placed_from r.bank r.offset words))
            (sym (words-waiting table more r (last_waits waiting r)))
            ∙ sym (with_words-more no_words (places table more) rs r);
        fault = h.fault ∙ ap least (sym (faults-alike table more waiting rs alike))
            ∙ ap least (sym (ap (λ fs. standing_faults table more rs ++ fs)
            (faults-waiting table more r [] (last_waits waiting r) ∙ faults-none table more)
            ∙ append-nil (standing_faults table more rs)))
            ∙ ap least (sym (faults-append table more rs (r ∷ [])));
      }

  pub known-put_aside : AreKnown table waiting rs → AreKnown table (waiting ++ r ∷ []) (rs ++ r ∷ [])
  known-put_aside known =
      let more : List Request = waiting ++ r ∷ [] in
      All-push (λ q. is_waiting more q ≡ false → request_words table q ≢ Err Undefined) rs r
      (All-weaker (λ q. is_waiting waiting q ≡ false → request_words table q ≢ Err Undefined)
      (λ q. is_waiting more q ≡ false → request_words table q ≢ Err Undefined)
      (λ q known_before settled. known_before (or_parts (is_waiting waiting q) (is_waiting (r ∷ []) q)
      (sym (list_any-append (λ w. w.line == q.line) waiting (r ∷ [])) ∙ settled)).0) rs known)
      (λ settled. absurd (let waits = last_waits waiting r in cc))
