-- A think does what the plain drive's does.
use Rattle.std.proofs.Common.{◌≡◌, ℕ, zero, suc, ◌+◌, ◌-◌, ◌<◌, ◌≤◌, List, ◌++◌, length, take, drop, Some, None, Option, sym, refl, ap, ◌∙◌, subst, add-one, arith}
use Rattle.model.specs.declared.Phase.{Phase}
use Rattle.model.specs.declared.Phase.TheVariants as phase
use Rattle.model.specs.Lattice.{Lattice, Guide}
use Rattle.model.specs.Ground.{Ground}
use Rattle.model.specs.Scale.{Scale}
use Rattle.model.specs.Plain.{World, State, Walk, Course, going, join, close, Answer, refused, felt, spent, joined, shut, moved, told, think, call, answer, think_step, thought}
use Rattle.model.specs.Promise.{Fit, Reached}
use Rattle.model.specs.Worlds.{over}
use Rattle.model.proofs.Search.Steps.{Step, step, none_waits, takes, joins, stops, walks}
use Rattle.model.proofs.Run.ByThink.{thought_on, thought_joins, thought_closes}
use Rattle.model.proofs.Reachable.{reached_call}
use Rattle.measure.specs.declared.queue.Entry.{Entry}
use Rattle.board.specs.declared.square.Square.{Square}
use Rattle.reconnect.specs.declared.state.Outcome.{Outcome}
use Rattle.reconnect.specs.declared.state.Outcome.TheVariants.{Joined, Shut}
use Rattle.reconnect.specs.Represents.{Memory, Represents}
use Rattle.reconnect.specs.Steps.{course_shown, StepsAs}
use Rattle.drive.specs.declared.call.Call.TheVariants.{Think}
use Rattle.drive.specs.declared.drive.Drive.{Drive}
use Rattle.drive.specs.declared.refusal.Refusal.{Refusal}
use Rattle.drive.specs.Refusals.{refusal_number}
use Rattle.drive.specs.Calls.{phase_refusal}
use Rattle.drive.specs.Answers.{thought_answer}
use Rattle.drive.specs.Looking.{turned}
use Rattle.drive.specs.Owning.{DriveMemory, Own, calls_after, Agrees}
use Rattle.drive.specs.Thinking.{think_refusal, phase_after, ThinksAs}
use Rattle.drive.proofs.Refusing.{think_phase, some_steps}
use Rattle.drive.proofs.Memory.{first_same, put_length, put_same, on_board}
use Rattle.drive.proofs.Owning.{own_refusal, own_queue, refuses}

module _ (w : World) where
  -- what thinking leaves as it was
  pub record Alike (s t : State w) : Type 0 where
    pub cell : t.cell ≡ s.cell
    pub moves : t.moves ≡ s.moves
    pub length : t.length ≡ s.length
    pub found : t.found ≡ s.found

  alike : (s : State w) → Alike s s
  alike s = record { cell = refl; moves = refl; length = refl; found = refl }

  alike_then : (s t u : State w) → Alike s t → Alike t u → Alike s u
  alike_then s t u p q = record { cell = q.cell ∙ p.cell; moves = q.moves ∙ p.moves; length = q.length ∙ p.length; found = q.found ∙ p.found }

  -- the phase after a step
  abbrev step_phase : Course → Phase → Phase
  step_phase going p = p
  step_phase (join x y) p = phase.Ready
  step_phase close p = phase.Shut

  one_step : {s : State w} {k : Walk} {r : State w × Course} → Step w s k r → Alike s r.0 × (r.0.phase ≡ step_phase r.1 s.phase)
  one_step {s} (none_waits e) = (record { cell = refl; moves = refl; length = refl; found = refl }, refl)
  one_step {s} (takes e) = (record { cell = refl; moves = refl; length = refl; found = refl }, refl)
  one_step {s} (joins e) = (record { cell = refl; moves = refl; length = refl; found = refl }, refl)
  one_step {s} (stops e f) = (record { cell = refl; moves = refl; length = refl; found = refl }, refl)
  one_step {s} (walks e f g) = (record { cell = refl; moves = refl; length = refl; found = refl }, refl)

  after_step : (s : State w) → Alike s (think_step w s).0 × ((think_step w s).0.phase ≡ step_phase (think_step w s).1 s.phase)
  unfolding think_step
  after_step s = one_step (step w s s.walk)

  -- the phase in which a think leaves the drive, by its answer
  abbrev pub answer_phase : Answer → Phase
  answer_phase (spent n) = phase.Searching
  answer_phase (joined n x y) = phase.Ready
  answer_phase (shut n) = phase.Shut
  answer_phase (refused n) = phase.Searching
  answer_phase (felt b n) = phase.Searching
  answer_phase (moved c) = phase.Searching
  answer_phase (told p c m l f n) = phase.Searching

  pub record Left (s : State w) (r : State w × Answer) : Type 0 where
    pub same : Alike s r.0
    pub phase : r.0.phase ≡ answer_phase r.1

  pub thought_left : (n k : ℕ) (s : State w) → s.phase ≡ phase.Searching → Left s (thought w n k s)
  unfolding thought
  thought_left zero k s p = record { same = alike s; phase = p }
  thought_left (suc n) k s p = by (think_step w s).1 refl (thought_left n (suc k) (think_step w s).0)
    where
      next : State w
      next = (think_step w s).0

      by : (c : Course) → (think_step w s).1 ≡ c → (next.phase ≡ phase.Searching → Left next (thought w n (suc k) next)) → Left s (thought w (suc n) k s)
      by going e rest =
          let r = rest ((after_step s).1 ∙ ap (λ c. step_phase c s.phase) e ∙ p) in
          subst (Left s) (sym (thought_on w n k s e)) (record { same = alike_then s next (thought w n (suc k) next).0 (after_step s).0 r.same; phase = r.phase })
      by (join x y) e rest = subst (Left s) (sym (thought_joins w n k s x y e)) (record { same = (after_step s).0; phase = (after_step s).1 ∙ ap (λ c. step_phase c s.phase) e })
      by close e rest = subst (Left s) (sym (thought_closes w n k s e)) (record { same = (after_step s).0; phase = (after_step s).1 ∙ ap (λ c. step_phase c s.phase) e })

  -- steps after steps that were spent
  thought_then : (i m k d b : ℕ) (s t : State w) → k + i ≡ d → i + m ≡ b → thought w i k s ≡ (t, spent d) → thought w b k s ≡ thought w m d t
  unfolding thought
  thought_then zero m k d b s t p q e =
      let more : b ≡ m = omega arith in
      let done : k ≡ d = omega arith in
      ap (λ x. thought w x k s) more ∙ ap (λ x. thought w m x s) done ∙ ap (thought w m d) (ap (λ r. r.0) e)
  thought_then (suc i) m k d zero s t p q e = absurd (omega arith)
  thought_then (suc i) m k d (suc b) s t p q e = by (think_step w s).1 refl (thought_then i m (suc k) d b (think_step w s).0 t (omega arith) (omega arith))
    where
      by : (c : Course) → (think_step w s).1 ≡ c → (thought w i (suc k) (think_step w s).0 ≡ (t, spent d) → thought w b (suc k) (think_step w s).0 ≡ thought w m d t) → thought w (suc b) k s ≡ thought w m d t
      by going c rest = thought_on w b k s c ∙ rest (sym (thought_on w i k s c) ∙ e)
      by (join x y) c rest = let z : joined (suc k) x y ≡ spent d = ap (λ r. r.1) (sym (thought_joins w i k s x y c) ∙ e) in cc
      by close c rest = let z : shut (suc k) ≡ spent d = ap (λ r. r.1) (sym (thought_closes w i k s c) ∙ e) in cc

  -- a step with which the search ends is the last
  pub thought_ends : (m done : ℕ) (t : State w) (o : Outcome) → (think_step w t).1 ≡ course_shown (Some o) → thought w (suc m) done t ≡ ((think_step w t).0, thought_answer (suc done) (Some o))
  thought_ends m done t (Joined x y) e = thought_joins w m done t x y e
  thought_ends m done t Shut e = thought_closes w m done t e

  pub think_call : (s : State w) → s.phase ≡ phase.Searching → (n : ℕ) → call w s (think (suc n)) ≡ thought w (suc n) 0 s
  unfolding call answer
  think_call s p n = ap (λ z. answer w s z (think (suc n))) p

  -- the state after steps that were spent is one that calls leave
  spent_reached : (s : State w) (n : ℕ) → Reached w s n → s.phase ≡ phase.Searching → (i : ℕ) (t : State w) → thought w i 0 s ≡ (t, spent i) → (m : ℕ) × Reached w t m
  unfolding thought
  spent_reached s n h p zero t e = (n, subst (λ z. Reached w z n) (ap (λ r. r.0) e) h)
  spent_reached s n h p (suc i) t e =
      let m : ℕ = calls_after (think (suc i)) (call w s (think (suc i))).1 n in
      (m, subst (λ z. Reached w z m) (ap (λ r. r.0) (think_call s p i ∙ e)) (reached_call w s n h (think (suc i))))

module _ (l : Lattice) (aim : Guide) (scale : Scale) {M : Type 0} (value : M → scale.Value) (kept : M → ℕ → Type 0) (home : ℕ) where
  -- some steps are done, and the search goes on
  abbrev pub Underway : ℕ → Memory M → Memory M → Type 0
  Underway done before now =
      (terrain : Ground) (s : State (over l terrain aim scale)) (n : ℕ) →
      Fit (over l terrain aim scale) → Reached (over l terrain aim scale) s n → s.phase ≡ phase.Searching → s.cell ≡ home →
      Represents (over l terrain aim scale) value kept before s →
      (t : State (over l terrain aim scale)) × (thought (over l terrain aim scale) done 0 s ≡ (t, spent done)) × Represents (over l terrain aim scale) value kept now t

  pub underway_none : (before : Memory M) → Underway 0 before before
  unfolding thought
  underway_none before terrain s n fit h p c r = (s, refl, r)

  pub underway_spent : (budget : ℕ) (before now : Memory M) → Underway budget before now → ThinksAs l aim scale value kept home budget budget None before now
  underway_spent budget before now u terrain s n fit h p c r =
      let t = u terrain s n fit h p c r in
      let w = over l terrain aim scale in
      (sym (ap (λ z. z.1) t.1), subst (λ z. Represents w value kept now z.0) (sym t.1) t.2)

  module _ (done : ℕ) (before now next : Memory M) (u : Underway done before now) (terrain : Ground) (s : State (over l terrain aim scale)) (n : ℕ)
      (fit : Fit (over l terrain aim scale)) (h : Reached (over l terrain aim scale) s n) (p : s.phase ≡ phase.Searching) (c : s.cell ≡ home) (r : Represents (over l terrain aim scale) value kept before s) where
    abbrev w : World
    w = over l terrain aim scale

    abbrev t : State w
    t = (u terrain s n fit h p c r).0

    so_far : thought w done 0 s ≡ (t, spent done)
    so_far = (u terrain s n fit h p c r).1

    left : Left w s (t, spent done)
    left = subst (Left w s) so_far (thought_left w done 0 s p)

    -- what the next step comes to
    stepped : (x : Option Outcome) → StepsAs scale value kept x now next l home aim → (course_shown x ≡ (think_step w t).1) × Represents w value kept next (think_step w t).0
    stepped x steps =
        let reached = spent_reached w s n h p done t so_far in
        steps terrain t reached.0 fit reached.1 left.phase (left.same.cell ∙ c) (u terrain s n fit h p c r).2

    -- the rest of a budget
    rest : (m b : ℕ) → done + suc m ≡ b → thought w b 0 s ≡ thought w (suc m) done t
    rest m b e = thought_then w done (suc m) 0 done b s t (omega arith) e so_far

  pub underway_more : (done : ℕ) (before now next : Memory M) → Underway done before now → StepsAs scale value kept None now next l home aim → Underway (done + 1) before next
  unfolding thought
  underway_more done before now next u steps terrain s n fit h p c r =
      let w = over l terrain aim scale in
      let t = (u terrain s n fit h p c r).0 in
      let one = stepped done before now next u terrain s n fit h p c r None steps in (
        (think_step w t).0,
        rest done before now next u terrain s n fit h p c r 0 (done + 1) refl ∙ thought_on w 0 done t (sym one.0) ∙ ap (λ k. ((think_step w t).0, spent k)) (sym (add-one done)),
        one.1,
      )

  pub underway_ends : (done budget : ℕ) (o : Outcome) (before now next : Memory M) → done < budget → Underway done before now → StepsAs scale value kept (Some o) now next l home aim →
      ThinksAs l aim scale value kept home budget (done + 1) (Some o) before next
  underway_ends done budget o before now next below u steps terrain s n fit h p c r =
      let w = over l terrain aim scale in
      let t = (u terrain s n fit h p c r).0 in
      let m : ℕ = budget - (done + 1) in
      let one = stepped done before now next u terrain s n fit h p c r (Some o) steps in
      let all : thought w budget 0 s ≡ ((think_step w t).0, thought_answer (done + 1) (Some o)) =
      rest done before now next u terrain s n fit h p c r m budget (omega arith) ∙ thought_ends w m done t o (sym one.0) ∙ ap (λ k. ((think_step w t).0, thought_answer k (Some o))) (sym (add-one done)) in
      (sym (ap (λ z. z.1) all), subst (λ z. Represents w value kept next z.0) (sym all) one.1)

-- the phase by the answer, and by what the steps came to
phase_same : (w : World) (done : ℕ) (t : Option Outcome) → answer_phase w (thought_answer done t) ≡ phase_after phase.Searching t
phase_same w done None = refl
phase_same w done (Some (Joined x y)) = refl
phase_same w done (Some Shut) = refl

-- the call of a think, as its contract has it
module _ (l : Lattice) (aim : Guide) (scale : Scale) {G M : Type 0} (value : M → scale.Value) (kept : M → ℕ → Type 0) (d : Drive G) (board : List (Square M)) (queue : List (Entry M)) (budget : ℕ) (terrain : Ground) where
  abbrev before : DriveMemory G M
  before = record { drive = d; board = board; queue = queue; terrain = terrain }

  by_phase : (start : Ground) (s : State (over l start aim scale)) (n : ℕ) → Own (over l start aim scale) value kept before s n → think_refusal d board queue budget l ≡ phase_refusal s.phase (Think budget)
  by_phase start s n own =
      let w = over l start aim scale in
      own_refusal w value kept before s n own (Think budget) (record { records = length board; entries = Some (length queue); at = None }) own.records (own_queue w value kept before s n own) refl

  pub think_refused : (e : Refusal) → think_refusal d board queue budget l ≡ Some e → Agrees l aim scale value kept (think budget) (refused (refusal_number e)) before before
  think_refused e due start s n own = refuses (over l start aim scale) value kept before s n own (Think budget) e (sym (by_phase start s n own) ∙ due)

  module _ (k done : ℕ) (t : Option Outcome) (d' : Drive G) (board' : List (Square M)) (queue' : List (Entry M)) (cells : k ≡ l.size) (ok : think_refusal d board queue budget l ≡ None)
      (left : d' ≡ turned d (phase_after d.phase t) d'.search)
      (thinks : ThinksAs l aim scale value kept d.cell budget done t (record { search = d.search; board = take k board; queue = queue }) (record { search = d'.search; board = board'; queue = queue' }))
      (records : length board' ≡ k) where
    abbrev after : DriveMemory G M
    after = record { drive = d'; board = board' ++ drop k board; queue = queue'; terrain = terrain }

    module _ (start : Ground) (s : State (over l start aim scale)) (n : ℕ) (own : Own (over l start aim scale) value kept before s n) where
      abbrev world : World
      world = over l start aim scale

      searching : s.phase ≡ phase.Searching
      searching = think_phase s.phase budget (sym (by_phase start s n own) ∙ ok)

      long : k ≤ length board
      long = omega (arith, cells, own.records)

      came_to : (thought_answer done t ≡ (thought world budget 0 s).1) × Represents world value kept (record { search = d'.search; board = board'; queue = queue' }) (thought world budget 0 s).0
      came_to =
          thinks start s n own.fit own.reached searching (sym own.cell) (
          on_board world value kept d.search queue s board (take k board) (λ a h. first_same board k long a (omega arith)) own.memory
          )

      as_called : call world s (think budget) ≡ thought world budget 0 s
      as_called =
          let some = some_steps s.phase budget (sym (by_phase start s n own) ∙ ok) in
          subst (λ b. call world s (think b) ≡ thought world b 0 s) (sym some.1) (think_call world s searching some.0)

      owned : Own world value kept after (thought world budget 0 s).0 (calls_after (think budget) (thought world budget 0 s).1 n)
      owned =
          let stays = thought_left world budget 0 s searching in
          let R : State world × Answer → Type 0 = λ r. Reached world r.0 (calls_after (think budget) r.1 n) in
          record {
            fit = own.fit;
            reached = subst R as_called (reached_call world s n own.reached (think budget));
            rock = own.rock;
            at = own.at ∙ sym stays.same.cell;
            records = subst (λ c. c ≤ length (board' ++ drop k board)) cells (put_length k board' records (drop k board));
            memory = on_board world value kept d'.search queue' (thought world budget 0 s).0 board' (board' ++ drop k board) (λ a h. put_same k board' records (drop k board) a (omega arith)) came_to.1;
            begun = ap (λ z. z.void) left ∙ own.begun;
            phase =
                ap (λ z. z.phase) left ∙ ap (λ p. phase_after p t) (own.phase ∙ searching) ∙ sym (phase_same world done t) ∙ ap (answer_phase world) came_to.0 ∙ sym stays.phase;
            cell = ap (λ z. z.cell) left ∙ own.cell ∙ sym stays.same.cell;
            moves = ap (λ z. z.moves) left ∙ own.moves ∙ sym stays.same.moves;
            length = ap (λ z. z.length) left ∙ own.length ∙ sym stays.same.length;
            found = ap (λ z. z.found) left ∙ own.found ∙ sym stays.same.found;
          }

    pub think_accepted : Agrees l aim scale value kept (think budget) (thought_answer done t) before after
    think_accepted start s n own =
        let Owns : State (over l start aim scale) × Answer → Type 0 = λ r. Own (over l start aim scale) value kept after r.0 (calls_after (think budget) r.1 n) in
        ((came_to start s n own).0 ∙ sym (ap (λ r. r.1) (as_called start s n own)), subst Owns (sym (as_called start s n own)) (owned start s n own))
