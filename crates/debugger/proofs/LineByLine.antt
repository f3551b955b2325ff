-- A session of commands, line by line.
use Rattle.std.proofs.Common.{ℕ, ◌+◌, ◌*◌, ◌<◌, ◌≤◌, ◌≡◌, Bool, true, false, List, Option, [], ◌∷◌, ◌++◌, length, take, refl, ap, ◌∙◌, sym}
use Rattle.std.proofs.Common.{arith, mul-le-mul_right, append_assoc, append-nil, length-append}
use Rattle.std.proofs.Math.Nat.{mul-le-mul_left}
use Rattle.agc_text.specs.Bytes.{line_feed}
use Rattle.agc_text.specs.Lines.{lines, ended_lines}
use Rattle.agc_text.proofs.LineLaws.{lines-none, ended_lines-ended, ended_lines-part}
use Rattle.words.specs.Readings.{TakesAtMost}
use Rattle.words.proofs.Texts.{append-then, beginning-after, beginning-longer, beginning-whole}
use Rattle.commands.specs.Lines.{TakesLine, EndsNoLine, ReadsWithin}
use Rattle.debugger.specs.Terms.{Terms, terms_of}
use Rattle.replay.specs.View.{SessionView}
use Rattle.debugger.specs.Replies.{Desk, Reply}
use Rattle.debugger.specs.Transcript.{first_desk}
use Rattle.debugger.specs.Sessions.{AllGranted, Commands, StandsAt}
use Rattle.debugger.specs.Conversation.{Reading, Talk, to_asked, is_end, conversation, last_desk, talk_leads_to, effort, efforts}
use Rattle.debugger.specs.Conversation.{lines_heard, WritesTalk, BeginsTalk, EndsTalk}
use Rattle.debugger.specs.Executions.{awaiting, Replied, ReplyBroken}
use Rattle.debugger.proofs.NewSteps.{granted-append}

replies-end : (terms : Terms) (read : Reading) (d : Desk) (line : List ℕ) (more : List (List ℕ)) → is_end (read line) ≡ true
    → conversation terms read d (line ∷ more) ≡ []
replies-end terms read d line more h = rw h refl

replies-more : (terms : Terms) (read : Reading) (d : Desk) (line : List ℕ) (more : List (List ℕ)) → is_end (read line) ≡ false
    → conversation terms read d (line ∷ more) ≡ (to_asked terms (read line) d).text
    ++ conversation terms read (to_asked terms (read line) d).desk more
replies-more terms read d line more h = rw h refl

leads-end : (terms : Terms) (read : Reading) (d : Desk) (line : List ℕ) (more : List (List ℕ)) → is_end (read line) ≡ true
    → last_desk terms read d (line ∷ more) ≡ d
leads-end terms read d line more h = rw h refl

leads-more : (terms : Terms) (read : Reading) (d : Desk) (line : List ℕ) (more : List (List ℕ)) → is_end (read line) ≡ false
    → last_desk terms read d (line ∷ more) ≡ last_desk terms read (to_asked terms (read line) d).desk more
leads-more terms read d line more h = rw h refl

lines_heard-end : (read : Reading) (line : List ℕ) (more : List (List ℕ)) → is_end (read line) ≡ true
    → lines_heard read (line ∷ more) ≡ line ∷ []
unfolding lines_heard
lines_heard-end read line more h = rw h refl

pub lines_heard-more : (read : Reading) (line : List ℕ) (more : List (List ℕ)) → is_end (read line) ≡ false
    → lines_heard read (line ∷ more) ≡ line ∷ lines_heard read more
unfolding lines_heard
lines_heard-more read line more h = rw h refl

lines_heard-none : (read : Reading) → lines_heard read [] ≡ []
unfolding lines_heard
lines_heard-none read = refl

-- The lines that were taken off a text so far, of which the rest is left, and so many bytes of it may stand in lines.
pub record Taken (read : Reading) (whole : List ℕ) (most : ℕ) (rest : List ℕ) (now : ℕ) : Type 0 where
  pub done : List (List ℕ)
  pub all : lines (take most whole) ≡ done ++ lines (take now rest)
  pub bytes : 0 < now → (bytes : List ℕ) × (whole ≡ bytes ++ rest)
      × ((tail : List ℕ) → ended_lines (bytes ++ tail) ≡ done ++ ended_lines tail)
  pub no_end : (more : List (List ℕ)) → lines_heard read (done ++ more) ≡ done ++ lines_heard read more

-- what was answered and written for the lines so far, after which the session stands at a place
pub record Answered (s : Talk) (done : List (List ℕ)) (at : Desk) (old new : List ℕ) : Type 0 where
  pub answers : List Bool
  pub additions : List (Option ℕ)
  pub granted : s.may_refuse ≡ false → AllGranted answers
  pub text : List ℕ
  pub goes_on : (rest : List Bool) (later : List (Option ℕ)) (more : List (List ℕ))
      → conversation (terms_of s.symbols s.source s.scenario) s.read (first_desk s.scenario (answers ++ rest) (additions ++ later))
      (done ++ more) ≡ text ++ conversation (terms_of s.symbols s.source s.scenario) s.read (awaiting at rest later) more
  pub leads_on : (rest : List Bool) (later : List (Option ℕ)) (more : List (List ℕ))
      → last_desk (terms_of s.symbols s.source s.scenario) s.read (first_desk s.scenario (answers ++ rest) (additions ++ later))
      (done ++ more) ≡ last_desk (terms_of s.symbols s.source s.scenario) s.read (awaiting at rest later) more
  pub written : new ≡ old ++ text

abbrev pub taken-none : (read : Reading) (whole : List ℕ) (most : ℕ) → Taken read whole most whole most
taken-none read whole most = record { done = []; all = refl; bytes = λ _. ([], refl, λ tail. refl); no_end = λ more. refl }

pub answered-none : (s : Talk) (old : List ℕ) → Answered s [] (first_desk s.scenario [] []) old old
answered-none s old = record {
  answers = [];
  additions = [];
  granted = λ _. tt;
  text = [];
  goes_on = λ rest later more. refl;
  leads_on
      = λ rest later more. refl;
  written = sym (append-nil old);
}

-- one line more was taken, and the end isn't asked for
abbrev pub taken-more : {read : Reading} {whole : List ℕ} {most : ℕ} {rest : List ℕ} {now : ℕ} (r : Taken read whole most rest now)
    (line rest' : List ℕ) (now' : ℕ) → now' < now
    → TakesLine rest now line rest' now' → is_end (read line) ≡ false → Taken read whole most rest' now'
taken-more {read} {whole} {most} {rest} {now} r line rest' now' less t h = record {
  done = r.done ++ line ∷ [];
  all = r.all ∙ ap (λ (ls : List (List ℕ)). r.done ++ ls) t.lines ∙ sym (append_assoc r.done (line ∷ []) _);
  bytes = λ more. (let b = r.bytes (omega arith) in let e = t.ended more in (
    b.0 ++ line ++ line_feed ∷ [],
    b.1 ∙ ap (λ (x : List ℕ). b.0 ++ x) e.1 ∙ ap (λ (x : List ℕ). b.0 ++ x) (sym (append_assoc line (line_feed ∷ []) rest'))
        ∙ sym (append_assoc b.0 (line ++ line_feed ∷ []) rest')
        ∙ ap (λ (x : List ℕ). x ++ rest') (sym (append_assoc b.0 line (line_feed ∷ []))),
    λ tail. ap ended_lines (ap (λ (x : List ℕ). x ++ tail) (append_assoc b.0 line (line_feed ∷ []))
        ∙ append_assoc b.0 (line ++ line_feed ∷ []) tail ∙ ap (λ (x : List ℕ). b.0 ++ x) (append_assoc line (line_feed ∷ []) tail))
        ∙ b.2 (line ++ line_feed ∷ tail) ∙ ap (λ (x : List (List ℕ)). r.done ++ x) (ended_lines-ended line tail e.0)
        ∙ sym (append_assoc r.done (line ∷ []) (ended_lines tail)),
  ));
  no_end = λ more. ap (lines_heard read) (append_assoc r.done (line ∷ []) more) ∙ r.no_end (line ∷ more)
      ∙ ap (λ (x : List (List ℕ)). r.done ++ x) (lines_heard-more read line more h)
      ∙ sym (append_assoc r.done (line ∷ []) (lines_heard read more));
}

-- and was answered
pub answered-more : {s : Talk} {done : List (List ℕ)} {at : Desk} {old new : List ℕ} (to : Desk) (new' line : List ℕ)
    → Answered s done at old new → is_end (s.read line) ≡ false
    → Replied s.may_refuse (to_asked (terms_of s.symbols s.source s.scenario) (s.read line)) at to new new'
    → Answered s (done ++ line ∷ []) to old new'
answered-more {s} {done} {at} {old} {new} to new' line t h e = record {
  answers = t.answers ++ e.answers;
  additions = t.additions ++ e.additions;
  granted = λ m. granted-append t.answers e.answers (t.granted m) (e.granted m);
  text = t.text ++ e.text;
  goes_on = λ rest later more.
      (λ i. conversation (terms_of s.symbols s.source s.scenario) s.read
      (first_desk s.scenario (append_assoc t.answers e.answers rest i) (append_assoc t.additions e.additions later i))
      (append_assoc done (line ∷ []) more i))
      ∙ t.goes_on (e.answers ++ rest) (e.additions ++ later) (line ∷ more)
      ∙ ap (λ (x : List ℕ). t.text ++ x) (replies-more (terms_of s.symbols s.source s.scenario) s.read
      (awaiting at (e.answers ++ rest) (e.additions ++ later)) line more h
      ∙ ap (λ (r : Reply). r.text ++ conversation (terms_of s.symbols s.source s.scenario) s.read r.desk more) (e.brings rest later))
      ∙ sym (append_assoc t.text e.text (conversation (terms_of s.symbols s.source s.scenario) s.read (awaiting to rest later) more));
  leads_on = λ rest later more.
      (λ i. last_desk (terms_of s.symbols s.source s.scenario) s.read
      (first_desk s.scenario (append_assoc t.answers e.answers rest i) (append_assoc t.additions e.additions later i))
      (append_assoc done (line ∷ []) more i))
      ∙ t.leads_on (e.answers ++ rest) (e.additions ++ later) (line ∷ more)
      ∙ leads-more (terms_of s.symbols s.source s.scenario) s.read (awaiting at (e.answers ++ rest) (e.additions ++ later)) line more h
      ∙ ap (λ (r : Reply). last_desk (terms_of s.symbols s.source s.scenario) s.read r.desk more) (e.brings rest later);
  written = append-then old new new' t.text e.text t.written e.written;
}

-- and nothing more was written
pub answered-kept : {s : Talk} {done : List (List ℕ)} {at : Desk} {old new : List ℕ} (new' : List ℕ) → Answered s done at old new
    → new' ≡ new → Answered s done at old new'
answered-kept new' t e = rw e t

-- the replies to lines were written, and the session stands where they lead to
abbrev pub WritesTo : Talk → List (List ℕ) → List ℕ → List ℕ → SessionView → Type 0
WritesTo s lines old new left = (w : WritesTalk s lines old new) × StandsAt (talk_leads_to s w.answers w.additions lines) left

abbrev pub EndsTo : Talk → Commands → List ℕ → List ℕ → SessionView → Type 0
EndsTo s commands old new left = (e : EndsTalk s commands old new)
    × StandsAt (talk_leads_to s e.replied.answers e.replied.additions (ended_lines e.bytes)) left

stands-there : (from to : Desk) (left : SessionView) → to ≡ from → StandsAt from left → StandsAt to left
stands-there from to left e s = record {
  scenario = s.scenario ∙ ap (λ (d : Desk). d.scenario) (sym e);
  steps = s.steps
      ∙ ap (λ (d : Desk). d.steps) (sym e);
}

module _ (s : Talk) (whole : List ℕ) (most : ℕ) (rest : List ℕ) (now : ℕ) (at : Desk) (old new : List ℕ)
    (r : Taken s.read whole most rest now) (t : Answered s r.done at old new) where
  -- the replies to lines of which these are done and others are left
  goes : (all more : List (List ℕ)) → all ≡ r.done ++ more
      → conversation (terms_of s.symbols s.source s.scenario) s.read (first_desk s.scenario t.answers t.additions) all
      ≡ t.text ++ conversation (terms_of s.symbols s.source s.scenario) s.read (awaiting at [] []) more
  goes all more e =
      ap (λ (a : List Bool). conversation (terms_of s.symbols s.source s.scenario) s.read (first_desk s.scenario a t.additions) all)
      (sym (append-nil t.answers))
      ∙ ap (λ (a : List (Option ℕ)). conversation (terms_of s.symbols s.source s.scenario) s.read
      (first_desk s.scenario (t.answers ++ []) a) all) (sym (append-nil t.additions))
      ∙ ap (conversation (terms_of s.symbols s.source s.scenario) s.read (first_desk s.scenario (t.answers ++ []) (t.additions ++ []))) e
      ∙ t.goes_on [] [] more

  -- where they lead to
  leads : (all more : List (List ℕ)) → all ≡ r.done ++ more
      → talk_leads_to s t.answers t.additions all ≡ last_desk (terms_of s.symbols s.source s.scenario) s.read (awaiting at [] []) more
  leads all more e =
      ap (λ (a : List Bool). last_desk (terms_of s.symbols s.source s.scenario) s.read (first_desk s.scenario a t.additions) all)
      (sym (append-nil t.answers))
      ∙ ap (λ (a : List (Option ℕ)). last_desk (terms_of s.symbols s.source s.scenario) s.read (first_desk s.scenario (t.answers ++ []) a)
      all) (sym (append-nil t.additions))
      ∙ ap (last_desk (terms_of s.symbols s.source s.scenario) s.read (first_desk s.scenario (t.answers ++ []) (t.additions ++ []))) e
      ∙ t.leads_on [] [] more

  module _ (left : SessionView) (stands : StandsAt (awaiting at [] []) left) where
    -- the replies to lines that end here
    ended : (all more : List (List ℕ)) → all ≡ r.done ++ more
        → conversation (terms_of s.symbols s.source s.scenario) s.read (awaiting at [] []) more ≡ []
        → last_desk (terms_of s.symbols s.source s.scenario) s.read (awaiting at [] []) more ≡ awaiting at [] []
        → WritesTo s all old new left
    ended all more e none still = (
      record {
        answers = t.answers;
        additions = t.additions;
        granted = t.granted;
        written = t.written ∙ ap (λ (x : List ℕ). old ++ x)
            (sym (goes all more e ∙ ap (λ (x : List ℕ). t.text ++ x) none ∙ append-nil t.text));
      },
      stands-there (awaiting at [] []) (talk_leads_to s t.answers t.additions all) left (leads all more e ∙ still) stands,
    )

    -- no line is left
    pub writes-end : take now rest ≡ [] → WritesTo s (lines (take most whole)) old new left
    writes-end e = ended (lines (take most whole)) []
        (r.all ∙ ap (λ (x : List (List ℕ)). r.done ++ x) (lines-none (take now rest) (ap length e))) refl refl

    -- or the end is asked for
    pub writes-quit : (line rest' : List ℕ) (now' : ℕ) → TakesLine rest now line rest' now' → is_end (s.read line) ≡ true
        → WritesTo s (lines (take most whole)) old new left
    writes-quit line rest' now' l h =
        let terms = terms_of s.symbols s.source s.scenario in
        ended (lines (take most whole)) (line ∷ lines (take now' rest')) (r.all ∙ ap (λ (x : List (List ℕ)). r.done ++ x) l.lines)
        (replies-end terms s.read (awaiting at [] []) line (lines (take now' rest')) h)
        (leads-end terms s.read (awaiting at [] []) line (lines (take now' rest')) h)

    -- a read failed
    pub writes-read : (left' : List ℕ) → 0 < now → EndsNoLine rest left' → EndsTo s (record { before = whole; left = left' }) old new left
    writes-read left' more e =
        let b = r.bytes more in
        let replied = ended (ended_lines (b.0 ++ e.part)) []
        (b.2 e.part ∙ ap (λ (x : List (List ℕ)). r.done ++ x) (ended_lines-part e.part e.no_feed)) refl refl in (
          record {
            bytes = b.0 ++ e.part;
            read = b.1 ∙ ap (λ (x : List ℕ). b.0 ++ x) e.split
                ∙ sym (append_assoc b.0 e.part left');
            replied = replied.0;
          },
          replied.1,
        )

  -- what was written could not be handed on
  pub writes-flush : BeginsTalk s (lines (take most whole)) old new
  writes-flush = record {
    answers = t.answers;
    additions = t.additions;
    granted = t.granted;
    part = rw (goes (lines (take most whole)) (lines (take now rest)) r.all)
        (beginning-longer old new t.text (conversation (terms_of s.symbols s.source s.scenario) s.read (awaiting at [] [])
        (lines (take now rest))) (beginning-whole old new t.text t.written));
  }

  -- a reply could not be written whole
  pub writes-part : (line rest' new' : List ℕ) (now' : ℕ) → TakesLine rest now line rest' now' → is_end (s.read line) ≡ false
      → ReplyBroken s.may_refuse (to_asked (terms_of s.symbols s.source s.scenario) (s.read line)) at new new'
      → BeginsTalk s (lines (take most whole)) old new'
  writes-part line rest' new' now' l h e =
      let reply = to_asked (terms_of s.symbols s.source s.scenario) (s.read line) (awaiting at e.answers e.additions) in
      let after = conversation (terms_of s.symbols s.source s.scenario) s.read reply.desk (lines (take now' rest')) in
      let whole_is : conversation (terms_of s.symbols s.source s.scenario) s.read
      (first_desk s.scenario (t.answers ++ e.answers) (t.additions ++ e.additions)) (lines (take most whole))
      ≡ t.text ++ (reply.text ++ after) =
      ap (conversation (terms_of s.symbols s.source s.scenario) s.read
      (first_desk s.scenario (t.answers ++ e.answers) (t.additions ++ e.additions)))
      (r.all ∙ ap (λ (x : List (List ℕ)). r.done ++ x) l.lines)
      ∙ t.goes_on e.answers e.additions (line ∷ lines (take now' rest'))
      ∙ ap (λ (x : List ℕ). t.text ++ x) (replies-more (terms_of s.symbols s.source s.scenario) s.read (awaiting at e.answers e.additions)
      line (lines (take now' rest')) h) in
      record {
        answers = t.answers ++ e.answers;
        additions = t.additions ++ e.additions;
        granted = λ m. granted-append t.answers e.answers (t.granted m) (e.granted m);
        part = rw whole_is (beginning-after old new new' t.text (reply.text ++ after) t.written
            (beginning-longer new new' reply.text after e.part));
      }

-- what lines cost
efforts-append : (read : Reading) (xs ys : List (List ℕ)) → efforts read (xs ++ ys) ≡ efforts read xs + efforts read ys
efforts-append read [] ys = omega arith
efforts-append read (x ∷ xs) ys = let rest = efforts-append read xs ys in omega arith

pub efforts-push : (read : Reading) (xs : List (List ℕ)) (line : List ℕ)
    → efforts read (xs ++ line ∷ []) ≡ efforts read xs + effort (read line)
efforts-push read xs line = let both = efforts-append read xs (line ∷ []) in omega arith

-- what the lines that were read cost
pub count-end : {read : Reading} {whole : List ℕ} {most : ℕ} {rest : List ℕ} {now : ℕ} (r : Taken read whole most rest now)
    → take now rest ≡ []
    → efforts read (lines_heard read (lines (take most whole))) ≡ efforts read r.done
count-end {read} {rest = rest} {now = now} r e =
    ap (λ (x : List (List ℕ)). efforts read (lines_heard read x))
    (r.all ∙ ap (λ (x : List (List ℕ)). r.done ++ x) (lines-none (take now rest) (ap length e)))
    ∙ ap (efforts read) (r.no_end [] ∙ ap (λ (x : List (List ℕ)). r.done ++ x) (lines_heard-none read) ∙ append-nil r.done)

pub count-quit : {read : Reading} {whole : List ℕ} {most : ℕ} {rest : List ℕ} {now : ℕ} (r : Taken read whole most rest now)
    (line rest' : List ℕ) (now' : ℕ) → TakesLine rest now line rest' now' → is_end (read line) ≡ true
    → efforts read (lines_heard read (lines (take most whole))) ≡ efforts read r.done + effort (read line)
count-quit {read} r line rest' now' t h =
    ap (λ (x : List (List ℕ)). efforts read (lines_heard read x)) (r.all ∙ ap (λ (x : List (List ℕ)). r.done ++ x) t.lines)
    ∙ ap (efforts read) (r.no_end (line ∷ lines (take now' rest'))
    ∙ ap (λ (x : List (List ℕ)). r.done ++ x) (lines_heard-end read line (lines (take now' rest')) h)) ∙ efforts-push read r.done line

-- the lines that were answered cost no more than those that are read, nor do they with the next one
pub count-before : {read : Reading} {whole : List ℕ} {most : ℕ} {rest : List ℕ} {now : ℕ} (r : Taken read whole most rest now)
    → efforts read r.done ≤ efforts read (lines_heard read (lines (take most whole)))
count-before {read} {rest = rest} {now = now} r =
    let all = ap (λ (x : List (List ℕ)). efforts read (lines_heard read x)) r.all ∙ ap (efforts read) (r.no_end (lines (take now rest)))
    ∙ efforts-append read r.done (lines_heard read (lines (take now rest))) in
    omega (arith, all)

pub count-line : {read : Reading} {whole : List ℕ} {most : ℕ} {rest : List ℕ} {now : ℕ} (r : Taken read whole most rest now)
    (line rest' : List ℕ) (now' : ℕ) → TakesLine rest now line rest' now' → is_end (read line) ≡ false
    → efforts read r.done + effort (read line) ≤ efforts read (lines_heard read (lines (take most whole)))
count-line {read} {rest = rest} {now = now} r line rest' now' t h =
    let more = lines_heard read (lines (take now' rest')) in
    let all = ap (λ (x : List (List ℕ)). efforts read (lines_heard read x)) (r.all ∙ ap (λ (x : List (List ℕ)). r.done ++ x) t.lines)
    ∙ ap (efforts read) (r.no_end (line ∷ lines (take now' rest'))
    ∙ ap (λ (x : List (List ℕ)). r.done ++ x) (lines_heard-more read line (lines (take now' rest')) h))
    ∙ efforts-append read r.done (line ∷ more) in
    omega (arith, all)

-- what was read, and what was read then
pub reads-more : (old now new : List ℕ) (before between after : ℕ) → ReadsWithin old now before between → ReadsWithin now new between after
    → ReadsWithin old new before after
reads-more old now new before between after p q = record {
  bytes = p.bytes ++ q.bytes;
  split = p.split ∙ ap (λ (x : List ℕ). p.bytes ++ x) q.split ∙ sym (append_assoc p.bytes q.bytes new);
  within = omega (arith, length-append p.bytes q.bytes, p.within, q.within);
}

pub reads-none : (left : List ℕ) (most : ℕ) → ReadsWithin left left most most
reads-none left most = record { bytes = []; split = refl; within = omega arith }

pub takes-most : (old new : List ℕ) (before after : ℕ) → ReadsWithin old new before after → TakesAtMost before old new
takes-most old new before after p = record { bytes = p.bytes; front = p.split; most = omega (arith, p.within) }

-- the steps that one line more executes
pub cost-more : (first before after c e n m : ℕ) → before ≤ first + (c + 1) * n → n ≤ m → after + n ≤ before + (e + 1) * m
    → after ≤ first + (c + e + 1) * m
cost-more first before after c e n m h le spends = omega (arith, mul-le-mul_left c le)

pub cost-same : (first before c e n : ℕ) → before ≤ first + (c + 1) * n → before ≤ first + (c + e + 1) * n
cost-same first before c e n h = omega arith

pub cost-within : (first before c e n : ℕ) → before ≤ first + (c + 1) * n → c ≤ e → before ≤ first + (e + 1) * n
cost-within first before c e n h le = omega (arith, mul-le-mul_right n le)
