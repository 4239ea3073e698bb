-- Lines that begin with a word, and the length of a line.
use Rattle.std.specs.Prelude.{ℕ, ◌+◌, ◌*◌, min, Bool, cond, not, ◌&&◌, ◌||◌, List, [], length, take, Ok, Err, codes, Result, ◌==◌, nat_lt}
use Rattle.std.specs.Str.{bytes_eq}
use Rattle.texts.specs.declared.fault.TextFault.{TextFault}
use Rattle.texts.specs.declared.fault.TextFault.TheVariants.{Length, Word}
use Rattle.texts.specs.Lines.{TextLine, in_line}

-- the words of the formats, each as its own bytes; no other text has any
abbrev pub is_word : List ℕ → Bool
is_word w =
    bytes_eq w (codes "SITE") || bytes_eq w (codes "PLAN") || bytes_eq w (codes "END")
    || bytes_eq w (codes "PATH") || bytes_eq w (codes "DONE") || bytes_eq w (codes "SHUT")

abbrev pub word_bytes : List ℕ → List ℕ
word_bytes w = cond (is_word w) w []

-- a line has to have this length and an end: else the fault is past its characters, or past the right length if that comes sooner
abbrev pub length_check : TextLine → ℕ → Result (Unit {0}) TextFault
length_check l right =
    cond (length l.bytes == right && l.ended) (Ok tt) (Err (Length (in_line l (min (length l.bytes) right + 1))))

-- a line has to have the characters of a word, the word itself, and then the length of the word and its fields
unfoldable pub word_check : TextLine → List ℕ → ℕ → Result (Unit {0}) TextFault
word_check l word fields =
    cond (nat_lt (length l.bytes) (length word)) (Err (Length (in_line l (length l.bytes + 1))))
    (cond (not (bytes_eq (take (length word) l.bytes) word)) (Err (Word (in_line l 1)))
    (length_check l (length word + 10 * fields)))
