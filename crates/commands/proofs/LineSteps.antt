-- Lines taken off a text, a byte at a time.
use Rattle.std.proofs.Common.{◌≡◌, ◌≢◌, ℕ, ◌+◌, Bool, true, false, not, ◌||◌, Option, List, [], ◌∷◌, ◌++◌, length, take, refl, ap, ◌∙◌, sym}
use Rattle.std.proofs.Common.{eqb, arith, add-one, append_assoc, length-append}
use Rattle.std.proofs.Math.Seq.{take-append-add}
use Rattle.std.proofs.lemmas.List.{append-nil}
use Rattle.std.proofs.lemmas.Bool.{ne_eqb, eqb-false, both_ways}
use Rattle.std.specs.List.{list_any}
use Rattle.agc_text.specs.Bytes.{line_feed}
use Rattle.agc_text.specs.Lines.{lines, HasNoFeed}
use Rattle.agc_text.proofs.LineLaws.{lines-ended, lines-last, lines-none, HasNoFeed-push}
use Rattle.commands.specs.Lines.{kept_line, KeepsLine, EndsNoLine, ReadsWithin}

-- the part of a line that was read, of the first `before` bytes of a text, and what is kept of it
pub record Reading (text : List ℕ) (before : ℕ) (line : Option (List ℕ)) (rest : List ℕ) (now : ℕ) (begun : Bool) : Type 0 where
  pub part : List ℕ
  pub no_feed : HasNoFeed part
  pub split : text ≡ part ++ rest
  pub count : before ≡ length part + now
  pub kept_of : line ≡ kept_line part
  pub some : begun ≡ not (eqb (length part) 0)

-- one byte more was read, which is no line feed
pub reading-push : {text : List ℕ} {before : ℕ} {line : Option (List ℕ)} {rest : List ℕ} {now : ℕ} {begun : Bool} (byte : ℕ)
    (rest' : List ℕ) (line' : Option (List ℕ)) (now' : ℕ)
    → Reading text before line rest now begun → rest ≡ byte ∷ rest' → now ≡ now' + 1 → byte ≢ line_feed
    → ((part : List ℕ) → line ≡ kept_line part → line' ≡ kept_line (part ++ byte ∷ []))
    → Reading text before line' rest' now' true
reading-push {text} {before} {line} {rest} {now} {begun} byte rest' line' now' r e b other pushed = record {
  part = r.part ++ byte ∷ [];
  no_feed = HasNoFeed-push r.part byte r.no_feed other;
  split = r.split ∙ ap (λ t. r.part ++ t) e ∙ sym (append_assoc r.part (byte ∷ []) rest');
  count = simp length-append (omega (arith, r.count));
  kept_of = pushed r.part r.kept_of;
  some = simp length-append (rw (ne_eqb (length r.part + 1) 0 (λ z. omega arith)) refl);
}

-- the line that a line feed ended
pub keeps-ended : {text : List ℕ} {before : ℕ} {line : Option (List ℕ)} {rest : List ℕ} {now : ℕ} {begun : Bool} (byte : ℕ) (rest' : List ℕ)
    (now' : ℕ)
    → Reading text before line rest now begun → rest ≡ byte ∷ rest' → now ≡ now' + 1 → byte ≡ line_feed
    → KeepsLine line text before rest' now'
keeps-ended {text} {before} {line} {rest} {now} {begun} byte rest' now' r e b feed =
    let whole : text ≡ r.part ++ line_feed ∷ rest' = r.split ∙ ap (λ t. r.part ++ t) e ∙ ap (λ x. r.part ++ x ∷ rest') feed in
    let count : before ≡ length r.part + (now' + 1) = r.count ∙ ap (λ n. length r.part + n) b in
    record {
      bytes = r.part;
      kept_of = r.kept_of;
      taken = record {
        lines = ap (λ t. lines (take before t)) whole ∙ ap (λ n. lines (take n (r.part ++ line_feed ∷ rest'))) count
            ∙ ap lines (take-append-add r.part (line_feed ∷ rest') (now' + 1))
            ∙ rw add-one (lines-ended r.part (take now' rest') r.no_feed);
        ended = λ _. (r.no_feed, whole);
      };
    }

-- some text
not-empty : (part : List ℕ) → not (eqb (length part) 0) ≡ true → part ≢ []
not-empty [] some none = cc
not-empty (byte ∷ part) some none = cc

-- all of a text was read
read-all : {text : List ℕ} {before : ℕ} {line : Option (List ℕ)} {rest : List ℕ} {now : ℕ} {begun : Bool}
    → (r : Reading text before line rest now begun) → take now rest ≡ [] → take before text ≡ r.part
read-all {text} {before} {line} {rest} {now} {begun} r none = rw (r.split, r.count, take-append-add, none, append-nil) refl

-- the line that the end of the text ended
pub keeps-last : {text : List ℕ} {before : ℕ} {line : Option (List ℕ)} {rest : List ℕ} {now : ℕ} {begun : Bool} (rest' : List ℕ)
    → Reading text before line rest now begun → take now rest ≡ [] → begun ≡ true
    → KeepsLine line text before rest' 0
keeps-last {text} {before} {line} {rest} {now} {begun} rest' r none some = record {
  bytes = r.part;
  kept_of = r.kept_of;
  taken = record {
    lines = ap lines (read-all r none) ∙ lines-last r.part r.no_feed (not-empty r.part (sym r.some ∙ some))
        ∙ ap (λ more. r.part ∷ more) (sym (lines-none [] refl));
    ended = λ more. absurd (omega arith);
  };
}

-- reads one after another
pub reads-more : {old now new : List ℕ} {before between after : ℕ} → ReadsWithin old now before between → ReadsWithin now new between after
    → ReadsWithin old new before after
reads-more {old} {now} {new} {before} {between} {after} first second = record {
  bytes = first.bytes ++ second.bytes;
  split = first.split ∙ ap (λ t. first.bytes ++ t) second.split ∙ sym (append_assoc first.bytes second.bytes new);
  within = simp length-append (omega (arith, first.within, second.within));
}

-- one of two is true
neither : (a b : Bool) → (a || b) ≡ false → (a ≡ false) × (b ≡ false)
neither true b e = absurd (both_ways true e refl)
neither false b e = (refl, e)

-- what no line feed stands in, by a search for one
pub none-found : (held : List ℕ) → HasNoFeed held → list_any (λ b. eqb b line_feed) held ≡ false
none-found [] none = refl
none-found (byte ∷ rest) none = rw (ne_eqb byte line_feed none.0) (none-found rest none.1)

pub found-none : (held : List ℕ) → list_any (λ b. eqb b line_feed) held ≡ false → HasNoFeed held
found-none [] none = tt
found-none (byte ∷ rest) none =
    let both = neither (eqb byte line_feed) (list_any (λ b. eqb b line_feed) rest) none in
    (eqb-false byte line_feed both.0, found-none rest both.1)

-- nothing was read of a text in which no line feed was found
pub ends-unread : (held left : List ℕ) → HasNoFeed held → EndsNoLine (held ++ left) left
ends-unread held left none = record { part = held; no_feed = none; split = refl }
