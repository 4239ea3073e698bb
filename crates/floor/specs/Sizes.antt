-- Which widths and heights a floor can have, and the refusal of the others.
use Rattle.std.specs.Prelude.{◌≡◌, ℕ, Bool, cond, ◌&&◌, Some, None, Ok, Err, Option, Result, nat_le}
use Rattle.floor.specs.declared.extent.SizeFault.{SizeFault}
use Rattle.floor.specs.declared.extent.SizeFault.TheVariants.{Width, Height}

-- a width or a height is from 1 to 64
abbrev pub in_size : ℕ → Bool
in_size n = nat_le 1 n && nat_le n 64

-- what is wrong with a width and a height, the width first
abbrev pub size_fault : ℕ → ℕ → Option SizeFault
size_fault w h = cond (in_size w) (cond (in_size h) None (Some Height)) (Some Width)

-- the number of this refusal
abbrev pub fault_number : SizeFault → ℕ
fault_number Width = 1
fault_number Height = 1

-- what is made from a width and a height: P holds of it, or they are refused
abbrev pub Made : {X : Type 0} → ℕ → ℕ → Result X SizeFault → (X → Type 0) → Type 0
Made w h (Ok x) P = (size_fault w h ≡ None) × P x
Made w h (Err f) P = size_fault w h ≡ Some f
