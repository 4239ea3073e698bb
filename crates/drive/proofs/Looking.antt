-- A look does what the plain drive's does.
use Rattle.std.proofs.Common.{◌≡◌, ℕ, ◌<◌, ◌≤◌, Bool, true, false, cond, not, eqb, List, ◌++◌, length, take, drop, Some, None, sym, refl, ap, ◌∙◌, subst, arith, take-append-drop}
use lib.Count.{ones}
use Rattle.std.specs.Option.{option_map}
use Rattle.std.specs.List.{slice_get}
use Rattle.std.proofs.lemmas.Option.{slice_get_past, same_Some}
use Rattle.model.specs.declared.Phase.TheVariants as phase
use Rattle.model.specs.Lattice.{Lattice, Guide, rock_bits}
use Rattle.model.specs.Ground.{feels}
use Rattle.model.specs.Scale.{Scale}
use Rattle.model.specs.Worlds.{over}
use Rattle.model.specs.Plain as plain
use Rattle.model.specs.Plain.{World, State, Answer, refused, felt, look, call, answer, looked, felt_byte, new_rock, kept_pointer}
use Rattle.model.specs.Promise.{Reached}
use Rattle.model.proofs.Reachable.{Sound, reached_sound}
use Rattle.model.proofs.Run.ByLook.{looked_as}
use Rattle.measure.specs.declared.queue.Entry.{Entry}
use Rattle.board.specs.declared.square.Square.{Square}
use Rattle.board.specs.declared.square.Stage.TheVariants as stage
use Rattle.board.specs.Board.{changed, with_stage, pointer_in, mark_at, pointer_at, stage_shown, shown_as}
use Rattle.board.specs.Around.{Remade, new_bits_of, seen_square}
use Rattle.reconnect.specs.Represents.{Represents}
use Rattle.reconnect.specs.Beginning as search
use Rattle.drive.specs.declared.call.Call.TheVariants.{Look}
use Rattle.drive.specs.declared.drive.Drive.{Drive}
use Rattle.drive.specs.declared.refusal.Refusal.{Refusal}
use Rattle.drive.specs.Refusals.{refusal_number}
use Rattle.drive.specs.Calls.{phase_refusal}
use Rattle.drive.specs.Looking.{next_search, look_refusal, found_more, turned, made_searching, Begins, GoesOn, Looked}
use Rattle.drive.specs.Owning.{DriveMemory, Own, calls_after, Agrees}
use Rattle.drive.proofs.Refusing.{look_phase}
use Rattle.drive.proofs.Memory.{some_mapped, first_length, first_same, put_length, put_same, on_board}
use Rattle.drive.proofs.Seeing.{Seen, seen_as, felt_as, count_as}
use Rattle.drive.proofs.Narrowing.{taken_looked}
use Rattle.drive.proofs.Searching.{square_same, begins_search}
use Rattle.drive.proofs.Owning.{few, reached_then, agrees_then, own_sound, own_refusal, own_queue, own_cell, refuses}

-- a beginning of a search, as the search has it
begins_again : {G M : Type 0} {scale : Scale} {value : M → scale.Value} {kept : M → ℕ → Type 0} (d : Drive G) {d' : Drive G} {board board' : List (Square M)} {queue queue' : List (Entry M)} →
    d' ≡ made_searching d → Begins scale value kept d.cell (next_search d.search.number) board board' queue queue' →
    search.Begins scale value kept d.cell (record { search = d.search; board = board; queue = queue }) (record { search = d'.search; board = board'; queue = queue' })
begins_again d {board} e b =
    let number = ap (λ z. z.search.number) e in
    record {
      zero = b.zero;
      nought = b.nought;
      exact = b.exact;
      number = number;
      rests = ap (λ z. z.search.walk) e;
      waits = b.waits ∙ ap (λ n. changed (with_stage n (stage.Waiting b.zero d.cell)) board d.cell) (sym number);
      pushed = Some 1;
      queued = b.queued;
      counted = ap (λ z. z.search.waiting) e;
    }

-- a look keeps the guide
pub same_guide : {G M : Type 0} {scale : Scale} {value : M → scale.Value} {kept : M → ℕ → Type 0} {d d' : Drive G} {board board' : List (Square M)} {queue queue' : List (Entry M)} → GoesOn scale value kept d d' board board' queue queue' → d'.guide ≡ d.guide
same_guide {d} {board} h = grind (arith, h.searching, h.ready)

-- the plain drive's look, by the pointer that is left at the carrier's cell
abbrev left_pointer : (w : World) → State w → ℕ
left_pointer w s = kept_pointer w s.squares s.cell s.cell

look_call : (w : World) (s : State w) → s.phase ≡ phase.Unseen → call w s look ≡ (looked_as w s (not (eqb (left_pointer w s) 0)), felt (felt_byte w s.cell) (new_rock w s))
unfolding call answer looked
look_call w s e = ap (λ p. answer w s p look) e

module _ {w : World} {G M : Type 0} {value : M → w.scale.Value} {kept : M → ℕ → Type 0} {m : DriveMemory G M} {s : State w} {n : ℕ} (own : Own w value kept m s n) where
  abbrev size : ℕ
  size = w.lattice.size

  abbrev here : ℕ
  here = s.cell

  abbrev d : Drive G
  d = m.drive

  abbrev number : ℕ
  number = d.search.number

  -- the records that a look works on
  abbrev part : List (Square M)
  part = take size m.board

  sound : Sound w s
  sound = own_sound w value kept m s n own

  by_phase : look_refusal d m.board m.queue w.lattice m.terrain ≡ phase_refusal s.phase Look
  by_phase =
      own_refusal w value kept m s n own Look (record { records = length m.board; entries = Some (length m.queue); at = Some m.terrain.at })
      own.records (own_queue w value kept m s n own) (own_cell w value kept m s n own)

  old : (a : ℕ) → a < size → (x : Square M) × (slice_get part a ≡ Some x) × (shown_as value number x ≡ s.squares a)
  old a h = some_mapped (shown_as value number) (slice_get part a) (s.squares a) (ap (option_map (shown_as value number)) (first_same m.board size own.records a h) ∙ own.memory.shown a h)

  marks : (a : ℕ) → mark_at part a ≡ (s.squares a).mark
  marks a = grind (arith, old a, slice_get_past part a, first_length m.board size own.records, sound.unseen_outside a)

  module _ (unseen : s.phase ≡ phase.Unseen) {byte count : ℕ} (feels : byte ≡ rock_bits w.lattice w.rock here)
      {d' : Drive G} {board' : List (Square M)} {queue' : List (Entry M)}
      (done : Looked w.scale value kept w.lattice byte d d' part board' m.queue queue' count)
      (records : length board' ≡ size) (entries : length queue' ≡ length m.queue) (rest : List (Square M)) where
    abbrev new : ℕ
    new = new_bits_of w.lattice here byte part

    abbrev seen : List (Square M)
    seen = done.seen

    -- a record before and after
    record Remembered (a : ℕ) : Type 0 where
      pub before : Square M
      pub after : Square M
      pub found : slice_get seen a ≡ Some after
      pub shown : shown_as value number before ≡ s.squares a
      pub earlier : before.search ≤ number
      pub viewed : Seen w own.fit.lattice s part marks byte feels sound.pointers.off_rock a before after

    remembered : (a : ℕ) → a < size → Remembered a
    remembered a h =
        let x = (old a h).0 in
        let shown = (old a h).2 in
        let remade : Remade (seen_square w.lattice here byte new) part seen = subst (λ c. Remade (seen_square w.lattice c byte (new_bits_of w.lattice c byte part)) part seen) own.cell done.remade in
        record {
          before = x;
          after = seen_square w.lattice here byte new a x;
          found = remade a ∙ ap (option_map (seen_square w.lattice here byte new a)) (old a h).1;
          shown = shown;
          earlier = own.memory.numbered a x h (sym (first_same m.board size own.records a h) ∙ (old a h).1);
          viewed = seen_as w own.fit.lattice s part marks byte feels sound.pointers.off_rock a x (ap (λ y. y.mark) shown) (ap (λ y. y.pointer) shown);
        }

    counted_new : count ≡ new_rock w s
    counted_new = subst (λ c. count ≡ ones (new_bits_of w.lattice c byte part)) own.cell done.new ∙ count_as w own.fit.lattice s part marks byte feels

    points : pointer_at seen here ≡ left_pointer w s
    points = let r = remembered here sound.inside in ap pointer_in r.found ∙ r.viewed.pointer

    -- with a pointer left, the search stays as it is
    stays : Represents w value kept (record { search = d.search; board = seen; queue = m.queue }) (looked_as w s true)
    stays = record {
      number = own.memory.number;
      walk = own.memory.walk ∙ sound.at_rest (λ p. cc);
      shown = λ a h. let r = remembered a h in let g = r.viewed in
          ap (option_map (shown_as value number)) r.found
          ∙ ap Some (square_same (shown_as value number r.after) ((looked_as w s true).squares a) g.mark g.pointer (g.paint ∙ ap (λ z. z.paint) r.shown) (
          ap (λ k. cond (eqb k number) (stage_shown value r.after.stage) plain.idle) g.search
          ∙ ap (λ k. cond (eqb r.before.search number) (stage_shown value k) plain.idle) g.stage
          ∙ ap (λ z. z.stage) r.shown
          ));
      numbered = λ a z h e. let r = remembered a h in
          subst (λ y. y.search ≤ number) (same_Some _ _ (sym r.found ∙ e)) (omega (arith, r.earlier, r.viewed.search));
      room = own.memory.room;
      frontier = λ p. absurd cc;
      few = λ p. absurd cc;
    }

    -- without one, a search begins
    begins : search.Begins w.scale value kept here (record { search = d.search; board = seen; queue = m.queue }) (record { search = d'.search; board = board'; queue = queue' }) →
        Represents w value kept (record { search = d'.search; board = board'; queue = queue' }) (looked_as w s false)
    begins b =
        begins_search w own.fit value kept s (record { search = d.search; board = seen; queue = m.queue }) (record { search = d'.search; board = board'; queue = queue' })
        own.memory.number (few w own.fit s sound).searches sound.inside
        (λ a h. let r = remembered a h in let g = r.viewed in (
          r.after,
          r.found,
          record { mark = g.mark; pointer = g.pointer; paint = g.paint ∙ ap (λ z. z.paint) r.shown; earlier = omega (arith, r.earlier, g.search) },
        ))
        (omega (arith, entries, own.memory.room)) entries b

    -- the drive after the look, ready or not
    pub record After (ready : Bool) : Type 0 where
      pub drive : d' ≡ turned (found_more d count) (cond ready phase.Ready phase.Searching) d'.search
      pub memory : Represents w value kept (record { search = d'.search; board = board'; queue = queue' }) (looked_as w s ready)

    after : (t : Bool) → eqb (left_pointer w s) 0 ≡ t → After (not t)
    after true e =
        let b = done.goes_on.searching (ap (λ c. eqb (pointer_at seen c) 0) own.cell ∙ ap (λ p. eqb p 0) points ∙ e) in
        record {
          drive = b.0 ∙ ap (turned (found_more d count) phase.Searching) (sym (ap (λ z. z.search) b.0));
          memory = begins (subst (λ c. search.Begins w.scale value kept c (record { search = d.search; board = seen; queue = m.queue }) (record { search = d'.search; board = board'; queue = queue' })) own.cell
              (begins_again (found_more d count) b.0 b.1));
        }
    after false e =
        let r = done.goes_on.ready (ap (λ c. eqb (pointer_at seen c) 0) own.cell ∙ ap (λ p. eqb p 0) points ∙ e) in
        let same : d.search ≡ d'.search = sym (ap (λ z. z.search) r.0) in
        record {
          drive = r.0 ∙ ap (turned (found_more d count) phase.Ready) same;
          memory = subst (λ z. Represents w value kept z (looked_as w s true)) (λ i. record { search = same i; board = sym r.1 i; queue = sym r.2 i }) stays;
        }

    abbrev then : State w
    then = looked_as w s (not (eqb (left_pointer w s) 0))

    abbrev told : Answer
    told = felt (felt_byte w here) (new_rock w s)

    -- the memory after the look
    abbrev left : DriveMemory G M
    left = record { drive = d'; board = board' ++ rest; queue = queue'; terrain = m.terrain }

    reached : Reached w then (calls_after look told n)
    reached = reached_then s n look (look_call w s unseen) own.reached

    owned : After (not (eqb (left_pointer w s) 0)) → Own w value kept left then (calls_after look told n)
    owned a =
        let then-few = few w own.fit then (reached_sound w own.fit then (calls_after look told n) reached) in
        record {
          fit = own.fit;
          reached = reached;
          rock = own.rock;
          at = own.at;
          records = put_length size board' records rest;
          memory = on_board w value kept d'.search queue' then board' (board' ++ rest) (put_same size board' records rest) a.memory;
          begun = ap (λ z. z.void) a.drive ∙ own.begun;
          phase = ap (λ z. z.phase) a.drive;
          cell = ap (λ z. z.cell) a.drive ∙ own.cell;
          moves = ap (λ z. z.moves) a.drive ∙ own.moves;
          length = ap (λ z. z.length) a.drive ∙ own.length;
          found = ap (λ z. z.found) a.drive ∙ omega (arith, own.found, counted_new, then-few.found);
        }

    look_agrees : (felt byte count ≡ (call w s look).1) × Own w value kept left (call w s look).0 (calls_after look (call w s look).1 n)
    look_agrees =
        let answers : felt byte count ≡ told = ap (λ b. felt b count) (felt_as w own.fit.lattice s part marks byte feels) ∙ ap (felt (felt_byte w here)) counted_new in
        agrees_then s n look (look_call w s unseen) answers (owned (after (eqb (left_pointer w s) 0) refl))

-- the call of a look, as its contract has it
module _ {l : Lattice} {aim : Guide} {scale : Scale} {G M : Type 0} {value : M → scale.Value} {kept : M → ℕ → Type 0} {m : DriveMemory G M} where
  pub look_refused : {e : Refusal} → look_refusal m.drive m.board m.queue l m.terrain ≡ Some e → Agrees l aim scale value kept look (refused (refusal_number e)) m m
  look_refused {e} due start s n own = refuses (over l start aim scale) value kept m s n own Look e (sym (by_phase own) ∙ due)

  pub look_accepted : {floor : Lattice} {byte count : ℕ} {d' : Drive G} {board' : List (Square M)} {queue' : List (Entry M)} →
      l ≡ floor → byte ≡ feels floor m.terrain → look_refusal m.drive m.board m.queue l m.terrain ≡ None →
      Looked scale value kept l byte m.drive d' m.board board' m.queue queue' count → length board' ≡ length m.board → length queue' ≡ length m.queue →
      Agrees l aim scale value kept look (felt byte count) m (record { drive = d'; board = board'; queue = queue'; terrain = m.terrain })
  look_accepted {byte} {count} {d'} {board'} {queue'} same feels ok done records entries start s n own =
      let w = over l start aim scale in
      let After : List (Square M) → Type 0 = λ xs.
      (felt byte count ≡ (call w s look).1)
      × Own w value kept (record { drive = d'; board = xs; queue = queue'; terrain = m.terrain }) (call w s look).0 (calls_after look (call w s look).1 n) in
      let felt-here : byte ≡ rock_bits l start.rock s.cell =
      feels ∙ ap (λ g. rock_bits g m.terrain.rock m.terrain.at) (sym same) ∙ ap (λ r. rock_bits l r m.terrain.at) own.rock ∙ ap (rock_bits l start.rock) own.at in
      let inside : m.drive.cell < l.size = omega (arith, own.cell, (sound own).inside) in
      let long : length (take l.size board') ≡ l.size = first_length board' l.size (omega (arith, own.records, records)) in
      subst After (take-append-drop l.size board') (
      look_agrees own (look_phase s.phase (sym (by_phase own) ∙ ok)) felt-here
      (taken_looked l own.fit.lattice scale value kept byte m.drive d' m.board board' m.queue queue' count inside done) long entries (drop l.size board')
      )
