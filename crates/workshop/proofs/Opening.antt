-- Programs and feeds that were read, and sessions that were opened over them.
use Rattle.std.proofs.Common.{◌≡◌, ◌+◌, true, List, ℕ, Result, Ok, Err, refl, sym, subst, arith}
use Rattle.std.specs.Prelude.{IsOkAnd}
use Rattle.feed.specs.Feed.{inputs}
use Rattle.feed.specs.declared.entry.Entry.{Entry}
use Rattle.workshop.specs.Debugging.{Opens, OpensThen, opened}
use Rattle.workshop.specs.Failures.{Reader}
use Rattle.yayul.specs.declared.language.Language.TheVariants.{Standard}
use Rattle.workshop.specs.Inputs.{Code, assembled, code_of, loaded, of_feed, prepared}
use Rattle.workshop.specs.Loading.{Files, Loads, LoadsThen, Reads, ReadsInputs, Tells}
use Rattle.workshop.specs.declared.debugging.Opened.{Opened}
use Rattle.workshop.specs.declared.fault.WorkshopFault.{WorkshopFault}
use Rattle.workshop.specs.declared.fault.WorkshopFault.TheVariants.{NoMemory, ReadFailed, WriteFailed, Source, Feed, Rope, Table, TooLong}
use Rattle.workshop.specs.declared.inputs.Loaded.{Loaded}
use Rattle.workshop.specs.declared.origin.Origin.{Origin}
use Rattle.workshop.specs.declared.origin.Origin.TheVariants as origin
use Rattle.words.specs.Readings.{TakesAtMost}
use Rattle.feed.specs.Feed.{most_bytes}

-- a fault that is told of one text, and so of another
tells_on : {A B : Type 0} (x : Result A WorkshopFault) (y : Result B WorkshopFault) (fault : WorkshopFault)
    → Tells x (Err fault) → (x ≡ Err fault → y ≡ Err fault) → Tells y (Err fault)
tells_on x y NoMemory h f = tt
tells_on x y ReadFailed h f = tt
tells_on x y WriteFailed h f = absurd h
tells_on x y (Source fault) h f = f h
tells_on x y (Feed fault) h f = f h
tells_on x y (Rope fault) h f = f h
tells_on x y (Table line) h f = f h
tells_on x y TooLong h f = f h

-- a feed was read, after a source
tells_feed : (x : Result Code WorkshopFault) (y : Result (List Entry) WorkshopFault) (code : Code) (is : Result (List Entry) WorkshopFault)
    → x ≡ Ok code → Tells y is → Tells (loaded x y) (loaded (Ok code) is)
tells_feed x y code (Ok is) e h = rw (e, h) refl
tells_feed x y code (Err fault) e h = tells_on y (loaded x y) fault h (λ r. rw (e, r) refl)

tells_then : (source feed : List ℕ) (code : Result Code WorkshopFault) (before after : Reader) (result : Result Loaded WorkshopFault)
    → Tells (code_of (assembled Standard source)) code → before.left ≡ feed → before.told ≡ true → LoadsThen code before after result
    → Tells (prepared source feed) result
unfolding prepared
tells_then source feed (Ok code) before after result h e told n =
    subst (λ (r : Result Loaded WorkshopFault). Tells (loaded (code_of (assembled Standard source)) (of_feed (inputs feed))) r)
    (sym n.gives)
    (tells_feed (code_of (assembled Standard source)) (of_feed (inputs feed)) code n.inputs h
    (subst (λ (text : List ℕ). Tells (of_feed (inputs text)) n.inputs) e (n.reads.bytes told).tells))
tells_then source feed (Err fault) before after result h e told n =
    subst (λ (r : Result Loaded WorkshopFault). Tells (loaded (code_of (assembled Standard source)) (of_feed (inputs feed))) r) (sym n.0)
    (tells_on (code_of (assembled Standard source)) (loaded (code_of (assembled Standard source)) (of_feed (inputs feed))) fault h
    (λ r. rw r refl))

-- what was read of a source and a feed
tells_prepared : (before after : Files) (result : Result Loaded WorkshopFault) → Loads (origin.Source Standard) before after result
    → before.program.told ≡ true → before.feed.told ≡ true → Tells (prepared before.program.left before.feed.left) result
tells_prepared before after result h pt ft = tells_then before.program.left before.feed.left h.code before.feed after.feed result
    (h.reads.bytes pt).tells refl ft h.next

-- no session was opened
refused_after : (x : Result Loaded WorkshopFault) (l : Result Loaded WorkshopFault) (fault : WorkshopFault) → Tells x l
    → OpensThen l (Err fault) → Tells x (Err fault)
refused_after x (Ok l) fault t n = subst (λ (e : WorkshopFault). Tells x (Err e)) (sym n) tt
refused_after x (Err e) fault t n = let same : e ≡ fault = (let h = n in cc) in subst (λ (f : WorkshopFault). Tells x (Err f)) same t

pub refused : (before after : Files) (fault : WorkshopFault) → Opens (origin.Source Standard) before after (Err fault)
    → before.program.told ≡ true → before.feed.told ≡ true → Tells (prepared before.program.left before.feed.left) (Err fault)
refused before after fault h pt ft =
    refused_after (prepared before.program.left before.feed.left) h.loaded fault (tells_prepared before after h.loaded h.loads pt ft) h.next

-- what holds of a session that was opened
over_opened : (x : Result Loaded WorkshopFault) (l : Result Loaded WorkshopFault) (o : Opened) (P : Loaded → Type 0)
    → Tells x l → OpensThen l (Ok o) → ((l : Loaded) → o.session ≡ opened l → P l) → IsOkAnd x P
over_opened x (Ok l) o P t n f = subst (λ (r : Result Loaded WorkshopFault). IsOkAnd r P) (sym t) (f l n.0)
over_opened x (Err e) o P t n f = absurd (let h = n in cc)

pub of_opened : (before after : Files) (o : Opened) (P : Loaded → Type 0) → Opens (origin.Source Standard) before after (Ok o)
    → before.program.told ≡ true → before.feed.told ≡ true → ((l : Loaded) → o.session ≡ opened l → P l)
    → IsOkAnd (prepared before.program.left before.feed.left) P
of_opened before after o P h pt ft f =
    over_opened (prepared before.program.left before.feed.left) h.loaded o P (tells_prepared before after h.loaded h.loads pt ft) h.next f

is_ok_of : (code : Code) (is : Result (List Entry) WorkshopFault) (l : Loaded) → Ok l ≡ loaded (Ok code) is
    → (entries : List Entry) × (is ≡ Ok entries)
is_ok_of code (Ok entries) l e = (entries, refl)
is_ok_of code (Err fault) l e = let no : Ok l ≡ Err fault = e in cc

takes_more : (n : ℕ) (old new : List ℕ) → TakesAtMost n old new → TakesAtMost (n + 1) old new
takes_more n old new h = record { bytes = h.bytes; front = h.front; most = omega (arith, h.most) }

no_memory_of : (before after : Reader) (is : Result (List Entry) WorkshopFault) → (entries : List Entry) × (is ≡ Ok entries)
    → Reads ReadsInputs before after is → Reads ReadsInputs before after (Err NoMemory)
no_memory_of before after (Ok entries) ok reads = record {
  bytes = λ told. record { tells = tt; whole = tt; most = takes_more most_bytes before.left after.left (reads.bytes told).most };
  failures = reads.failures;
  writer = refl;
}
no_memory_of before after (Err fault) ok reads = let no : Err fault ≡ Ok ok.0 = ok.1 in cc

-- a program and a feed were read, and memory ran out then
no_memory_then : (code : Result Code WorkshopFault) (before after : Reader) (l : Loaded) → LoadsThen code before after (Ok l)
    → LoadsThen code before after (Err NoMemory)
no_memory_then (Ok code) before after l n = record
    { inputs = Err NoMemory; reads = no_memory_of before after n.inputs (is_ok_of code n.inputs l n.gives) n.reads; gives = refl }
no_memory_then (Err fault) before after l n = let no : Ok l ≡ Err fault = n.0 in cc

pub no_memory_left : (from : Origin) (before after : Files) (l : Loaded) → Loads from before after (Ok l)
    → Loads from before after (Err NoMemory)
no_memory_left from before after l h = record {
  code = h.code;
  reads = h.reads;
  next = no_memory_then h.code before.feed after.feed l
      h.next;
}
