-- Lines of a record as they are written: how long they are, and one write after another.
use Rattle.std.proofs.Common.{◌≡◌, ℕ, ◌+◌, ◌<◌, ◌≤◌, List, [], ◌∷◌, ◌++◌, length, get_or, take, drop, codes, sym, refl, ap, ◌∙◌, append_assoc, add-zero, length-append}
use lib.Seq.{paste}
use Rattle.std.proofs.lemmas.List.{append-nil, take-append-drop, take_more}
use Rattle.std.proofs.lemmas.List.Edits.{paste_all, paste-paste}
use Rattle.texts.specs.declared.heading.Heading.{Heading}
use Rattle.texts.specs.Fields.{field_text, fields_text}
use Rattle.texts.specs.Headings.{heading_numbers}
use Rattle.filing.specs.Pen.{path_line, row_line}
use Rattle.texts.proofs.Fielded.{length_written_line}
use Rattle.filing.specs.Written.{overwritten}

-- ---- lengths

pub length_path_line : (h : Heading) → length (path_line h) ≡ 65
length_path_line h = length_written_line (codes "PATH") (heading_numbers h)

pub length_row_line : (number cell far : ℕ) → length (row_line number cell far) ≡ 31
length_row_line number cell far = length_written_line [] (number ∷ cell ∷ far ∷ [])

-- ---- one write after another

-- two writes in a row, the second right behind the first, are one
pub overwritten_more : (buffer one two : List ℕ) (at end : ℕ) (front back : List ℕ) → one ≡ overwritten buffer at front → two ≡ overwritten one end back → end ≡ at + length front → at ≤ length buffer → two ≡ overwritten buffer at (front ++ back)
unfolding overwritten
overwritten_more buffer one two at end front back first second e within =
    second
    ∙ ap (λ (d : List ℕ). overwritten d end back) (first ∙ sym (paste_all buffer at front (length front) refl))
    ∙ ap (λ (n : ℕ). overwritten (paste buffer at front (length front)) n back) e
    ∙ sym (paste_all (paste buffer at front (length front)) (at + length front) back (length back) refl)
    ∙ paste-paste buffer at front back (length front) (length back) refl refl within
    ∙ paste_all buffer at (front ++ back) (length front + length back) (sym (length-append front back))
    ∙ ap (λ (n : ℕ). take at buffer ++ ((front ++ back) ++ drop (at + n) buffer)) (sym (length-append front back))

-- writing nothing changes nothing
pub overwritten_none : (buffer : List ℕ) (at : ℕ) → buffer ≡ overwritten buffer at []
unfolding overwritten
overwritten_none buffer at = sym (ap (λ (n : ℕ). take at buffer ++ drop n buffer) (add-zero at) ∙ take-append-drop at buffer)

pub fields_text_push : (ns : List ℕ) (n : ℕ) → fields_text (ns ++ n ∷ []) ≡ fields_text ns ++ field_text n
fields_text_push [] n = append-nil (field_text n)
fields_text_push (m ∷ ns) n = ap (λ (t : List ℕ). field_text m ++ t) (fields_text_push ns n) ∙ sym (append_assoc (field_text m) (fields_text ns) (field_text n))

-- one more field
pub fields_text_more : (ns : List ℕ) (i : ℕ) → i < length ns → fields_text (take (i + 1) ns) ≡ fields_text (take i ns) ++ field_text (get_or ns i 0)
fields_text_more ns i l = ap fields_text (take_more ns i 0 l) ∙ fields_text_push (take i ns) (get_or ns i 0)
