-- The pointers along a way back are set one after the other.
use Rattle.std.proofs.Common.{◌≡◌, ℕ, suc, true, cond, List, sym, refl, ap, ◌∙◌, subst, eq-eqb, ne_eqb}
use Rattle.std.specs.List.{slice_get}
use Rattle.model.specs.Lattice.{is, first_direction}
use Rattle.model.specs.Plain as plain
use Rattle.model.specs.Plain.{World, Squares, put, from, is_taken, towards, retraced}
use Rattle.model.proofs.Basics.Tables.{put_part}
use Rattle.board.specs.declared.square.Square.{Square}
use Rattle.board.specs.declared.square.Stage.{Stage}
use Rattle.board.specs.declared.square.Stage.TheVariants as stage
use Rattle.board.specs.Board.{changed, with_pointer, stage_at, stage_shown, Shown}
use Rattle.board.proofs.Showing.{stage_shown_in, shown_changed}
use Rattle.reconnect.specs.Reaching.{back_in}
use Rattle.reconnect.specs.Retracing.{Homewards}

module _ (w : World) {M : Type 0} (value : M → w.scale.Value) (number home : ℕ) (q : Squares w) (a : ℕ) where
  -- so far along the way back: what is left of it, from a cell, is what is left to set
  pub record Tracing (board : List (Square M)) (left cell : ℕ) : Type 0 where
    pub squares : Squares w
    pub shown : Shown value w.lattice.size number board squares
    pub stages : (c : ℕ) → (squares c).stage ≡ (q c).stage
    pub taken : is_taken (q cell).stage ≡ true
    pub rest : retraced w w.lattice.size home a q ≡ retraced w left home cell squares

  pub tracing_begin : (board : List (Square M)) → Shown value w.lattice.size number board q → is_taken (q a).stage ≡ true → Tracing board w.lattice.size a
  tracing_begin board h t = record { squares = q; shown = h; stages = λ c. refl; taken = t; rest = refl }

  back_shown : (t : Stage M) → from w (stage_shown value t) ≡ back_in t
  back_shown stage.Idle = refl
  back_shown (stage.Waiting m b) = refl
  back_shown (stage.Taken m b) = refl

  -- nothing is left to set at home
  pub tracing_home : (board : List (Square M)) (left cell : ℕ) → Tracing board (suc left) cell → cell ≡ home → Shown value w.lattice.size number board (retraced w w.lattice.size home a q)
  unfolding retraced
  tracing_home board left cell t e =
      subst (Shown value w.lattice.size number board)
      (sym (t.rest ∙ ap (λ b. cond b t.squares (retraced w left home (from w (t.squares cell).stage) (put t.squares (from w (t.squares cell).stage) (plain.with_pointer w (t.squares (from w (t.squares cell).stage)) (towards w (from w (t.squares cell).stage) cell))))) (eq-eqb cell home e)))
      t.shown

  pub tracing_end : (board : List (Square M)) (cell : ℕ) → Tracing board 0 cell → Shown value w.lattice.size number board (retraced w w.lattice.size home a q)
  unfolding retraced
  tracing_end board cell t = subst (Shown value w.lattice.size number board) (sym t.rest) t.shown

  module _ (homewards : Homewards w home q) (board : List (Square M)) (left cell : ℕ) (t : Tracing board (suc left) cell) (away : cell ≡ home → ⊥) where
    abbrev back : ℕ
    back = back_in (stage_at number board cell)

    back_is : from w (t.squares cell).stage ≡ back
    back_is = ap (from w) (sym (stage_shown_in value number (t.squares cell) (slice_get board cell) (t.shown cell (homewards.inside cell t.taken)))) ∙ back_shown (stage_at number board cell)

    abbrev set_to : ℕ → Squares w
    set_to b = put t.squares b (plain.with_pointer w (t.squares b) (towards w b cell))

    on : retraced w (suc left) home cell t.squares ≡ retraced w left home back (set_to back)
    unfolding retraced
    on =
        ap (λ c. cond c t.squares (retraced w left home (from w (t.squares cell).stage) (set_to (from w (t.squares cell).stage)))) (ne_eqb cell home away)
        ∙ ap (λ b. retraced w left home b (set_to b)) back_is

    pub tracing_more : (d : ℕ) → d ≡ first_direction 8 (λ e. is (w.lattice.beside back e) cell) → Tracing (changed (with_pointer d) board back) left back
    unfolding towards
    tracing_more d e = record {
      squares = put t.squares back (plain.with_pointer w (t.squares back) d);
      shown = shown_changed value number w.lattice.size board t.squares back (with_pointer d) (λ x. plain.with_pointer w x d) (λ x. refl) t.shown;
      stages = λ c. put_part (λ x. x.stage) t.squares back (plain.with_pointer w (t.squares back) d) refl c ∙ t.stages c;
      taken = subst (λ b. is_taken (q b).stage ≡ true) (sym (ap (from w) (t.stages cell)) ∙ back_is) (homewards.back cell t.taken away);
      rest = t.rest ∙ on ∙ ap (λ p. retraced w left home back (put t.squares back (plain.with_pointer w (t.squares back) p))) (sym e);
    }
