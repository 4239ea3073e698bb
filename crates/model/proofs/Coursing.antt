-- The course of a drive leads over passable neighbours from the cell where it began to the cell where it is.
use Rattle.std.proofs.Common.{◌≡◌, ℕ, zero, suc, ◌+◌, Bool, true, false, cond, List, [], ◌∷◌, ◌++◌, Some, None, Option, sym, refl, ap, ◌∙◌, subst, subst₂}
use Rattle.model.specs.declared.Phase.{Phase}
use Rattle.model.specs.declared.Phase.TheVariants as phase
use Rattle.model.specs.Plain.{World, State, Walk, Call, look, think, go, tell, Answer, felt, told, spent, joined, shut, moved, refused, Course, going, join, close, looked, think_step, thought, step_onto, gone, tells, answer, call}
use Rattle.model.specs.Promise.{Event, accepted, events, latest}
use Rattle.model.specs.Course.{Waypoint, went, course, Drives, there, step}
use Rattle.model.proofs.Search.Steps.{Step, none_waits, takes, joins, stops, walks}
use Rattle.model.proofs.Search.Steps as steps
use Rattle.model.proofs.Reachable.{events_more, next_event}

module _ (w : World) where
  -- what a call does to the course: the carrier stays, or steps onto a passable neighbour
  pub data Turn (s : State w) : State w × Answer → Type 0 where
    stayed : {t : State w} {a : Answer} → t.cell ≡ s.cell → t.length ≡ s.length → ((x : ℕ) (rest : List Waypoint) → went a x rest ≡ rest) → Turn s (t, a)
    stepped : {t : State w} (d c : ℕ) → w.lattice.beside s.cell d ≡ Some c → w.rock c ≡ false → t.cell ≡ c → t.length ≡ s.length + w.lattice.cost d → Turn s (t, moved c)

  -- thinking moves nothing
  still : {s : State w} {k : Walk} {r : State w × Course} → Step w s k r → (r.0.cell ≡ s.cell) × (r.0.length ≡ s.length)
  still (none_waits e) = (refl, refl)
  still (takes e) = (refl, refl)
  still (joins e) = (refl, refl)
  still (stops e f) = (refl, refl)
  still (walks e f g) = (refl, refl)

  think_still : (s : State w) → ((think_step w s).0.cell ≡ s.cell) × ((think_step w s).0.length ≡ s.length)
  unfolding think_step
  think_still s = still (steps.step w s s.walk)

  pub thought_stays : (n done : ℕ) (s : State w) → ((thought w n done s).0.cell ≡ s.cell) × ((thought w n done s).0.length ≡ s.length) × ((x : ℕ) (rest : List Waypoint) → went (thought w n done s).1 x rest ≡ rest)
  unfolding thought
  thought_stays zero done s = (refl, refl, λ x rest. refl)
  thought_stays (suc n) done s = by (think_step w s).1 (think_step w s).0 (think_still s) (thought_stays n (suc done))
    where
      by : (c : Course) (t : State w) → (t.cell ≡ s.cell) × (t.length ≡ s.length) →
          ((u : State w) → ((thought w n (suc done) u).0.cell ≡ u.cell) × ((thought w n (suc done) u).0.length ≡ u.length) × ((x : ℕ) (rest : List Waypoint) → went (thought w n (suc done) u).1 x rest ≡ rest)) →
          let r : State w × Answer = elim c as (λ _. State w × Answer) [ going ↦ thought w n (suc done) t | join x y ↦ (t, joined (suc done) x y) | close ↦ (t, shut (suc done)) ] in
          (r.0.cell ≡ s.cell) × (r.0.length ≡ s.length) × ((x : ℕ) (rest : List Waypoint) → went r.1 x rest ≡ rest)
      by going t e rest = ((rest t).0 ∙ e.0, (rest t).1 ∙ e.1, (rest t).2)
      by (join x y) t e rest = (e.0, e.1, λ x rest. refl)
      by close t e rest = (e.0, e.1, λ x rest. refl)

  -- a think of some steps is accepted
  pub thought_accepted : (n done : ℕ) (s : State w) → accepted (thought w n done s).1 ≡ true
  unfolding thought
  thought_accepted zero done s = refl
  thought_accepted (suc n) done s = by (think_step w s).1 (think_step w s).0 (thought_accepted n (suc done))
    where
      by : (c : Course) (t : State w) → ((u : State w) → accepted (thought w n (suc done) u).1 ≡ true) →
          accepted (elim c as (λ _. State w × Answer) [ going ↦ thought w n (suc done) t | join x y ↦ (t, joined (suc done) x y) | close ↦ (t, shut (suc done)) ]).1 ≡ true
      by going t h = h t
      by (join x y) t h = refl
      by close t h = refl

  refuses : (s : State w) (n : ℕ) → Turn s (s, refused n)
  refuses s n = stayed refl refl (λ x rest. refl)

  goes : (s : State w) (o : Option ℕ) → w.lattice.beside s.cell (s.squares s.cell).pointer ≡ o → Turn s (elim o as (λ _. State w × Answer) [
    | None ↦ (s, refused 14)
    | Some b ↦ cond (w.rock b) (s, refused 14) (step_onto w s (s.squares s.cell).pointer b, moved b)
  ])
  goes s None e = refuses s 14
  goes s (Some b) e = by (w.rock b) refl
    where
      by : (t : Bool) → w.rock b ≡ t → Turn s (cond t (s, refused 14) (step_onto w s (s.squares s.cell).pointer b, moved b))
      by true f = refuses s 14
      by false f = stepped (s.squares s.cell).pointer b e f refl refl

  turn_in : (s : State w) (p : Phase) (k : Call) → Turn s (answer w s p k)
  unfolding answer looked gone tells
  turn_in s phase.Unseen look = stayed refl refl (λ x rest. refl)
  turn_in s phase.Ready look = refuses s 11
  turn_in s phase.Searching look = refuses s 11
  turn_in s phase.Arrived look = refuses s 11
  turn_in s phase.Shut look = refuses s 11
  turn_in s phase.Void look = refuses s s.vetted
  turn_in s phase.Searching (think zero) = refuses s 12
  turn_in s phase.Searching (think (suc n)) = let h = thought_stays (suc n) 0 s in stayed h.0 h.1 h.2
  turn_in s phase.Unseen (think n) = refuses s 11
  turn_in s phase.Ready (think n) = refuses s 11
  turn_in s phase.Arrived (think n) = refuses s 11
  turn_in s phase.Shut (think n) = refuses s 11
  turn_in s phase.Void (think n) = refuses s s.vetted
  turn_in s phase.Ready go = goes s (w.lattice.beside s.cell (s.squares s.cell).pointer) refl
  turn_in s phase.Unseen go = refuses s 11
  turn_in s phase.Searching go = refuses s 11
  turn_in s phase.Arrived go = refuses s 11
  turn_in s phase.Shut go = refuses s 11
  turn_in s phase.Void go = refuses s s.vetted
  turn_in s phase.Unseen tell = stayed refl refl (λ x rest. refl)
  turn_in s phase.Ready tell = stayed refl refl (λ x rest. refl)
  turn_in s phase.Searching tell = stayed refl refl (λ x rest. refl)
  turn_in s phase.Arrived tell = stayed refl refl (λ x rest. refl)
  turn_in s phase.Shut tell = stayed refl refl (λ x rest. refl)
  turn_in s phase.Void tell = stayed refl refl (λ x rest. refl)

  pub turn : (s : State w) (k : Call) → Turn s (call w s k)
  unfolding call
  turn s k = turn_in s s.phase k

  -- the course of a list of calls
  pub drives : (s : State w) (ks : List Call) → Drives w s.cell s.length (course w (events w s ks)) (latest w s (events w s ks)).cell (latest w s (events w s ks)).length
  unfolding events latest course
  drives s [] = there
  drives s (k ∷ ks) = by (call w s k) (turn s k) _ _ (drives (call w s k).0 ks)
    where
      by : (r : State w × Answer) → Turn s r → (b y : ℕ) →
          Drives w r.0.cell r.0.length (course w (events w r.0 ks)) b y →
          Drives w s.cell s.length (went r.1 r.0.length (course w (events w r.0 ks))) b y
      by r (stayed {t} {a} e f g) b y h =
          subst (λ rows. Drives w s.cell s.length rows b y) (sym (g t.length (course w (events w t ks))))
          (subst₂ (λ c x. Drives w c x (course w (events w t ks)) b y) e f h)
      by r (stepped {t} d c e f g l) b y h =
          subst (λ x. Drives w s.cell s.length (record { cell = c; length = x } ∷ course w (events w t ks)) b y) (sym l)
          (step d c e f (subst₂ (λ z x. Drives w z x (course w (events w t ks)) b y) g l h))

  course_append : (es : List (Event w)) (e : Event w) → course w (es ++ (e ∷ [])) ≡ course w es ++ went e.answer e.after.length []
  unfolding course
  course_append [] e = refl
  course_append (x ∷ es) e = ap (went x.answer x.after.length) (course_append es e) ∙ by x.answer
    where
      by : (a : Answer) → went a x.after.length (course w es ++ went e.answer e.after.length []) ≡ went a x.after.length (course w es) ++ went e.answer e.after.length []
      by (moved c) = refl
      by (refused n) = refl
      by (felt b n) = refl
      by (spent n) = refl
      by (joined n x y) = refl
      by (shut n) = refl
      by (told p c m l f n) = refl

  -- one more call
  pub course_more : (s : State w) (ks : List Call) (k : Call) → course w (events w s (ks ++ (k ∷ []))) ≡ course w (events w s ks) ++ went (call w (latest w s (events w s ks)) k).1 (call w (latest w s (events w s ks)) k).0.length []
  course_more s ks k = ap (course w) (events_more w s ks k) ∙ course_append (events w s ks) (next_event w (latest w s (events w s ks)) k)
