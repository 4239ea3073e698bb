-- A taken cell spreads to its neighbours, one direction after the other.
use Rattle.std.proofs.Common.{◌≡◌, ℕ, suc, ◌+◌, ◌<◌, ◌≤◌, Bool, true, false, cond, ◌||◌, eqb, List, length, Some, None, sym, refl, ap, ◌∙◌, subst, arith, eq-eqb, ne_eqb}
use mathlib.Core.Path.{fun_ext}
use native.Mathlib.Decide.{ℕ_discrete}
use lib.Dec.{eqb-suc-zero}
use Rattle.std.specs.List.{slice_get}
use Rattle.model.specs.Ground.{Ground}
use Rattle.model.specs.Lattice.{Lattice, Guide, Lawful, is}
use Rattle.model.specs.Scale.{Scale}
use Rattle.model.specs.Plain as plain
use Rattle.model.specs.Plain.{World, Squares, put, is_rock_mark, is_unseen_mark, is_taken, towards, worth, spread}
use Rattle.model.specs.Worlds.{over}
use Rattle.model.proofs.Basics.Tables.{put_here, put_else}
use Rattle.model.proofs.Basics.Counting.{count_same}
use Rattle.model.proofs.Basics.Directions.{towards_only}
use Rattle.measure.specs.declared.queue.Entry.{Entry}
use Rattle.board.specs.declared.square.Square.{Square}
use Rattle.board.specs.declared.square.Stage.{Stage}
use Rattle.board.specs.declared.square.Stage.TheVariants as stage
use Rattle.board.specs.Around.{towards_by}
use Rattle.board.specs.Board.{stage_at, stage_shown}
use Rattle.board.proofs.Showing.{stage_shown_in}
use Rattle.board.proofs.Towards.{first_stays, none_earlier, first_new}
use Rattle.reconnect.specs.declared.frontier.Taken.{Taken}
use Rattle.reconnect.specs.Frontier.{Exact, taken_cells, Frontier}
use Rattle.reconnect.specs.Reaching.{IsMeasure, reached_from, Reaches}
use Rattle.reconnect.specs.Spreading.{Spreads}

module _ (w : World) (lawful : Lawful w.lattice) (q : Squares w) (a : ℕ) where
  -- the board after the neighbours in the directions from 1 to n were reached
  abbrev pub spread_by : ℕ → Squares w
  spread_by n b = cond (eqb (towards_by w.lattice a n b) 0) (q b) (spread w q a b)

  still_taken : (t : plain.Stage w.scale.Value) (v : w.scale.Value) → is_taken (plain.reached w t v a) ≡ is_taken t
  still_taken plain.idle v = refl
  still_taken (plain.waiting u b) v = either (w.scale.at_most u v)
    where
      either : (c : Bool) → is_taken (cond c (plain.waiting u b) (plain.waiting v a)) ≡ false
      either true = refl
      either false = refl
  still_taken (plain.taken u b) v = refl

  spread_taken : (b : ℕ) → is_taken (spread w q a b).stage ≡ is_taken (q b).stage
  unfolding spread
  spread_taken b = either (eqb (towards w a b) 0 || is_rock_mark (q b).mark) _
    where
      either : (c : Bool) (v : w.scale.Value) → is_taken (cond c (q b) (plain.with_stage w (q b) (plain.reached w (q b).stage v a))).stage ≡ is_taken (q b).stage
      either true v = refl
      either false v = still_taken (q b).stage v

  -- spreading takes no cell
  pub taken_same : (n : ℕ) → taken_cells w.lattice.size (spread_by n) ≡ taken_cells w.lattice.size q
  taken_same n = count_same w.lattice.size (λ b. is_taken (spread_by n b).stage) (λ b. is_taken (q b).stage) (λ b l. either (eqb (towards_by w.lattice a n b) 0) b)
    where
      either : (c : Bool) (b : ℕ) → is_taken (cond c (q b) (spread w q a b)).stage ≡ is_taken (q b).stage
      either true b = refl
      either false b = spread_taken b

  -- a direction that leads nowhere
  pub spread_none : (n : ℕ) → w.lattice.beside a (suc n) ≡ None → spread_by n ≡ spread_by (suc n)
  spread_none n e = fun_ext (λ b. ap (λ d. cond (eqb d 0) (q b) (spread w q a b)) (sym (first_stays n (λ d. is (w.lattice.beside a d) b) (ap (λ o. is o b) e))))

  -- a direction that leads to a neighbour
  module _ {M : Type 0} (value : M → w.scale.Value) (m : M) (measures : value m ≡ worth w (q a).stage) (n c : ℕ) (leads : w.lattice.beside a (suc n) ≡ Some c) where
    abbrev t : Taken M
    t = record { cell = a; measure = m }

    before : spread_by n c ≡ q c
    before = ap (λ d. cond (eqb d 0) (q c) (spread w q a c)) (none_earlier w.lattice lawful a n c leads)

    after : spread_by (suc n) c ≡ spread w q a c
    after =
        ap (λ d. cond (eqb d 0) (q c) (spread w q a c)) (first_new n (λ d. is (w.lattice.beside a d) c) (none_earlier w.lattice lawful a n c leads) (ap (λ o. is o c) leads ∙ eq-eqb c c refl))
        ∙ ap (λ b. cond b (q c) (spread w q a c)) (eqb-suc-zero n)

    spread_is : spread w q a c ≡ cond (is_rock_mark (q c).mark) (q c) (plain.with_stage w (q c) (plain.reached w (q c).stage (w.scale.extend (value m) (w.lattice.cost (suc n)) (is_unseen_mark (q c).mark)) a))
    unfolding spread
    spread_is =
        ap (λ d. cond (eqb d 0 || is_rock_mark (q c).mark) (q c) (plain.with_stage w (q c) (plain.reached w (q c).stage (w.scale.extend (worth w (q a).stage) (w.lattice.cost d) (is_unseen_mark (q c).mark)) a))) (towards_only w lawful a (suc n) c leads)
        ∙ ap (λ b. cond (b || is_rock_mark (q c).mark) (q c) (plain.with_stage w (q c) (plain.reached w (q c).stage (w.scale.extend (worth w (q a).stage) (w.lattice.cost (suc n)) (is_unseen_mark (q c).mark)) a))) (eqb-suc-zero n)
        ∙ ap (λ v. cond (is_rock_mark (q c).mark) (q c) (plain.with_stage w (q c) (plain.reached w (q c).stage (w.scale.extend v (w.lattice.cost (suc n)) (is_unseen_mark (q c).mark)) a))) (sym measures)

    abbrev reached_as : plain.Square w.scale.Value → plain.Square w.scale.Value
    reached_as x = cond (is_rock_mark x.mark) x (plain.with_stage w x (plain.reached w x.stage (w.scale.extend (value m) (w.lattice.cost (suc n)) (is_unseen_mark x.mark)) a))

    pub spread_more : reached_from w value (spread_by n) t (w.lattice.cost (suc n)) c ≡ spread_by (suc n)
    spread_more = fun_ext (λ b. elim (ℕ_discrete b c) [
      | yes s ↦
          subst (λ k. reached_from w value (spread_by n) t (w.lattice.cost (suc n)) c k ≡ spread_by (suc n) k) (sym s)
          (put_here (spread_by n) c (reached_as (spread_by n c)) ∙ ap reached_as before ∙ sym spread_is ∙ sym after)
      | no ne ↦
          put_else (spread_by n) c (reached_as (spread_by n c)) b ne
          ∙ ap (λ d. cond (eqb d 0) (q b) (spread w q a b)) (sym (first_stays n (λ d. is (w.lattice.beside a d) b) (ap (λ o. is o b) leads ∙ ne_eqb c b (λ k. ne (sym k)))))
    ])

  -- after all eight
  pub spread_end : spread_by 8 ≡ spread w q a
  unfolding spread towards
  spread_end = fun_ext (λ b. by b (eqb (towards w a b) 0) refl)
    where
      by : (b : ℕ) (c : Bool) → eqb (towards w a b) 0 ≡ c → cond c (q b) (spread w q a b) ≡ spread w q a b
      by b true e = sym (ap (λ z. cond (z || is_rock_mark (q b).mark) (q b) (plain.with_stage w (q b) (plain.reached w (q b).stage (w.scale.extend (worth w (q a).stage) (w.lattice.cost (towards w a b)) (is_unseen_mark (q b).mark)) a))) e)
      by b false e = refl

-- the measure of a taken cell, as code reads it, is that of the plain drive, and exact
pub record Measured (w : World) {M : Type 0} (value : M → w.scale.Value) (kept : M → ℕ → Type 0) (q : Squares w) (a : ℕ) (r : M) : Type 0 where
  pub measures : value r ≡ worth w (q a).stage
  pub steps : ℕ
  pub early : steps < taken_cells w.lattice.size q
  pub exact : kept r steps

module _ (w : World) {M : Type 0} (value : M → w.scale.Value) (kept : M → ℕ → Type 0) (number : ℕ) (board : List (Square M)) (queue : List (Entry M)) (n : ℕ) (q : Squares w) (a : ℕ) (r : M) where
  by_stage : (t : Stage M) → stage_shown value t ≡ (q a).stage → is_taken (stage_shown value t) ≡ true → Exact kept (taken_cells w.lattice.size q) t → IsMeasure w.scale value kept t r → Measured w value kept q a r
  by_stage stage.Idle e k x is = cc
  by_stage (stage.Waiting m b) e k x is = cc
  by_stage (stage.Taken m b) e k x is = record { measures = ap value is ∙ ap (worth w) e; steps = x.0; early = x.1; exact = subst (λ z. kept z x.0) (sym is) x.2 }

  pub taken_measured :
      Frontier w.scale value kept w.lattice.size number board queue n q → a < w.lattice.size → is_taken (q a).stage ≡ true →
      IsMeasure w.scale value kept (stage_at number board a) r → Measured w value kept q a r
  taken_measured f l taken is =
      let e = stage_shown_in value number (q a) (slice_get board a) (f.shown a l) in
      by_stage (stage_at number board a) e (ap is_taken e ∙ taken) (f.exact a l) is

-- the search while a taken cell spreads
module _ (l : Lattice) (lawful : Lawful l) (scale : Scale) {M : Type 0} (value : M → scale.Value) (kept : M → ℕ → Type 0) (a number : ℕ) (board : List (Square M)) (queue : List (Entry M)) (n : ℕ) where
  -- after the neighbours in the directions from 1 to k were reached
  abbrev pub SpreadBy : ℕ → List (Square M) → List (Entry M) → ℕ → Type 0
  SpreadBy k board' queue' n' =
      (terrain : Ground) (aim : Guide) (q : Squares (over l terrain aim scale)) →
      a < l.size → is_taken (q a).stage ≡ true → n + 8 ≤ length queue →
      Frontier scale value kept l.size number board queue n q →
      Frontier scale value kept l.size number board' queue' n' (spread_by (over l terrain aim scale) lawful q a k) × (n' ≤ n + k)

  module _ (k : ℕ) (board' : List (Square M)) (queue' : List (Entry M)) (n' : ℕ) (so_far : SpreadBy k board' queue' n') where
    -- a direction that leads nowhere
    pub spread_past : l.beside a (suc k) ≡ None → SpreadBy (suc k) board' queue' n'
    spread_past e terrain aim q inside taken room f =
        let old = so_far terrain aim q inside taken room f in
        (subst (Frontier scale value kept l.size number board' queue' n') (spread_none (over l terrain aim scale) lawful q a k e) old.0, omega (arith, old.1))

    -- a neighbour that is reached
    pub spread_to : (r : M) → IsMeasure scale value kept (stage_at number board a) r → (b : ℕ) → l.beside a (suc k) ≡ Some b → length queue' ≡ length queue → k < 8 →
        (board'' : List (Square M)) (queue'' : List (Entry M)) (n'' : ℕ) →
        ((terrain : Ground) (aim : Guide) → Reaches (over l terrain aim scale) value kept (record { cell = a; measure = r }) (l.cost (suc k)) b number board' board'' queue' queue'' n' n'') →
        SpreadBy (suc k) board'' queue'' n''
    spread_to r is b e long few board'' queue'' n'' reaches terrain aim q inside taken room f =
        let w : World = over l terrain aim scale in
        let old = so_far terrain aim q inside taken room f in
        let exact = taken_measured w value kept number board queue n q a r f inside taken is in
        let price = lawful.priced (suc k) in
        let new =
        reaches terrain aim (spread_by w lawful q a k) exact.steps (lawful.within a (suc k) b e).1 lawful.small price.0 price.1 exact.exact
        (subst (λ z. exact.steps < z) (sym (taken_same w lawful q a k)) exact.early) (omega (arith, old.1, room, long)) old.0 in
        (subst (Frontier scale value kept l.size number board'' queue'' n'') (spread_more w lawful q a value r exact.measures k b e) new.0, omega (arith, new.1, old.1))

    -- after all eight
    pub spread_all : k ≡ 8 → Spreads l scale value kept a number board board' queue queue' n n'
    spread_all all terrain aim q inside taken room f =
        let w : World = over l terrain aim scale in
        let old = so_far terrain aim q inside taken room f in
        (subst (Frontier scale value kept l.size number board' queue' n') (ap (spread_by w lawful q a) all ∙ spread_end w lawful q a) old.0, omega (arith, old.1))
