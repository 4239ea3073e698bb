-- A step of a search does what a step of thinking of the plain drive does.
use Rattle.std.specs.Prelude.{◌≡◌, ℕ, true, Some, None, Option}
use Rattle.model.specs.declared.Phase.TheVariants as phase
use Rattle.model.specs.Lattice.{Lattice, Guide}
use Rattle.model.specs.Ground.{Ground}
use Rattle.model.specs.Scale.{Scale}
use Rattle.model.specs.Plain as plain
use Rattle.model.specs.Plain.{World, State, resting, walking, is_taken, worth, retraced, with_search, take, walk_on, think_step}
use Rattle.model.specs.Promise.{Fit, Reached}
use Rattle.model.specs.Worlds.{over}
use Rattle.reconnect.specs.declared.state.Outcome.{Outcome}
use Rattle.reconnect.specs.declared.state.Outcome.TheVariants.{Joined, Shut}
use Rattle.reconnect.specs.Represents.{Memory, Represents}
use Rattle.reconnect.specs.Retracing.{Homewards}

-- how a step leaves the search, as the plain drive has it
abbrev pub course_shown : Option Outcome → plain.Course
course_shown None = plain.going
course_shown (Some (Joined x y)) = plain.join x y
course_shown (Some Shut) = plain.close

-- a step comes to what one of the plain drive does: the search is left alike, and the memory stands for the state after it
abbrev pub ComesTo : (w : World) {M : Type 0} (value : M → w.scale.Value) (kept : M → ℕ → Type 0) → Option Outcome → Memory M → State w × plain.Course → Type 0
ComesTo w value kept c after r = (course_shown c ≡ r.1) × Represents w value kept after r.0

module _ (scale : Scale) {M : Type 0} (value : M → scale.Value) (kept : M → ℕ → Type 0) (c : Option Outcome) (before after : Memory M) where
  -- a take, where no walk is under way
  abbrev pub TakesAs : Type 0
  TakesAs =
      (l : Lattice) (terrain : Ground) (aim : Guide) (s : State (over l terrain aim scale)) →
      s.phase ≡ phase.Searching → s.walk ≡ resting → Represents (over l terrain aim scale) value kept before s →
      ComesTo (over l terrain aim scale) value kept c after (take (over l terrain aim scale) s)

  module _ (l : Lattice) (home : ℕ) where
    -- joining the tree at a taken cell
    abbrev pub JoinsAs : ℕ → Type 0
    JoinsAs a =
        (terrain : Ground) (aim : Guide) (s : State (over l terrain aim scale)) →
        s.phase ≡ phase.Searching → Homewards (over l terrain aim scale) home s.squares → is_taken (s.squares a).stage ≡ true →
        Represents (over l terrain aim scale) value kept before s →
        ComesTo (over l terrain aim scale) value kept c after (
          with_search (over l terrain aim scale) s phase.Ready (retraced (over l terrain aim scale) l.size home a s.squares) resting,
          plain.join (scale.shown (worth (over l terrain aim scale) (s.squares a).stage)).0 (scale.shown (worth (over l terrain aim scale) (s.squares a).stage)).1,
        )

    module _ (aim : Guide) where
      -- a step of the walk from a taken cell at another, in a search of a new drive that began at `home`
      abbrev pub WalksAs : ℕ → ℕ → Type 0
      WalksAs a b =
          (terrain : Ground) (s : State (over l terrain aim scale)) (n : ℕ) →
          Fit (over l terrain aim scale) → Reached (over l terrain aim scale) s n → s.phase ≡ phase.Searching → s.cell ≡ home →
          s.walk ≡ walking a b → Represents (over l terrain aim scale) value kept before s →
          ComesTo (over l terrain aim scale) value kept c after (walk_on (over l terrain aim scale) s a b)

      -- a step in a search of a new drive that began at `home`
      abbrev pub StepsAs : Type 0
      StepsAs =
          (terrain : Ground) (s : State (over l terrain aim scale)) (n : ℕ) →
          Fit (over l terrain aim scale) → Reached (over l terrain aim scale) s n → s.phase ≡ phase.Searching → s.cell ≡ home →
          Represents (over l terrain aim scale) value kept before s →
          ComesTo (over l terrain aim scale) value kept c after (think_step (over l terrain aim scale) s)
