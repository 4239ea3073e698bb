-- A site text, line by line: the first line, `PLAN`, the rows of the sheet, `END`.
use Rattle.std.specs.Prelude.{◌≡◌, ℕ, zero, suc, ◌+◌, ◌*◌, ◌<◌, ◌≤◌, Bool, true, cond, ◌||◌, List, [], ◌∷◌, ◌++◌, length, take, drop, Ok, Err, codes, Result, ◌==◌, nat_le, nat_lt, slice_index, slice_index_or}
use Rattle.std.specs.Result.{result_map_both}
use Rattle.texts.specs.declared.fault.TextFault.{TextFault}
use Rattle.texts.specs.declared.fault.HeadingFault.{HeadingFault}
use Rattle.sites.specs.declared.fault.SiteFault.{SiteFault}
use Rattle.sites.specs.declared.fault.SiteFault.TheVariants as fault
use Rattle.texts.specs.declared.heading.Heading.{Heading}
use Rattle.sites.specs.declared.site.Site.{Site}
use Rattle.texts.specs.FirstLines.{heading_of}
use Rattle.texts.specs.Headings.{heading_field, heading_check}
use Rattle.texts.specs.Lines.{TextLine, after_line, due_line, end_check, in_line}
use Rattle.texts.specs.Steps.{◌>>=◌}
use Rattle.texts.specs.Words.{length_check, word_check}

-- a fault of the text, or of its first line, as one of the site
abbrev pub in_text : {A : Type 0} → Result A TextFault → Result A SiteFault
in_text r = result_map_both (λ x. x) fault.Text r

abbrev pub in_heading : {A : Type 0} → Result A HeadingFault → Result A SiteFault
in_heading r = result_map_both (λ x. x) fault.Heading r

-- the first line: `SITE` and six fields that make a heading, of at most 512 cells
unfoldable pub site_heading : TextLine → Result Heading SiteFault
site_heading l =
    in_text (heading_of l (codes "SITE")) >>= λ h.
    in_heading (heading_check h) >>= λ _.
    cond (nat_lt 512 (h.width * h.height)) (Err (fault.TooLarge (heading_field 1))) (Ok h)

-- a line with a word alone
unfoldable pub word_alone : ℕ → List ℕ → List ℕ → Result (Unit {0}) SiteFault
word_alone n word t = in_text (due_line n t >>= λ l. word_check l word 0)

-- a sheet byte is `.` or `#`
abbrev pub is_mark : ℕ → Bool
is_mark b = b == 46 || b == 35

-- the bytes of a line from column c on are sheet bytes
abbrev pub marks_check : TextLine → ℕ → List ℕ → Result (Unit {0}) SiteFault
marks_check l c [] = Ok tt
marks_check l c (b ∷ bs) = cond (is_mark b) (marks_check l (c + 1) bs) (Err (fault.Foreign (in_line l c)))

-- a line of the sheet: its length, and then its bytes
unfoldable pub row_check : ℕ → TextLine → Result (Unit {0}) SiteFault
row_check width l = in_text (length_check l width) >>= λ _. marks_check l 1 l.bytes

-- so many lines of the sheet, from line n on
abbrev pub rows_check : ℕ → ℕ → ℕ → List ℕ → Result (Unit {0}) SiteFault
rows_check zero width n t = Ok tt
rows_check (suc rows) width n t = in_text (due_line n t) >>= λ l. row_check width l >>= λ _. rows_check rows width (n + 1) (after_line t)

-- the text behind so many lines
abbrev pub after_lines : ℕ → List ℕ → List ℕ
after_lines zero t = t
after_lines (suc k) t = after_lines k (after_line t)

-- the bytes of a sheet by cell number: its rows without their line ends
abbrev pub cells_of : ℕ → ℕ → List ℕ → List ℕ
cells_of width zero sheet = []
cells_of width (suc rows) sheet = take width sheet ++ cells_of width rows (drop (width + 1) sheet)

-- start and goal are cells, and the start is not on rock
unfoldable pub ends_check : Heading → List ℕ → Result (Unit {0}) SiteFault
ends_check h sheet =
    cond (nat_le (h.width * h.height) h.start) (Err (fault.StartOffFloor (heading_field 3)))
    (cond (slice_index (cells_of h.width h.height sheet) h.start == 35) (Err (fault.StartOnRock (heading_field 3)))
    (cond (nat_le (h.width * h.height) h.goal) (Err (fault.GoalOffFloor (heading_field 4)))
    (Ok tt)))

-- a site: its first line, and the rows of its sheet with their line ends
pub record SiteValue : Type 0 where
  pub heading : Heading
  pub sheet : List ℕ

abbrev pub site_value : Site → SiteValue
site_value s = record { heading = s.heading; sheet = s.sheet.now }

-- the lines below the first: `PLAN`, the rows, `END` and nothing more
unfoldable pub site_under : Heading → List ℕ → Result SiteValue SiteFault
site_under h plan =
    let rows = after_line plan in
    let end = after_lines h.height rows in
    let sheet = take (h.height * (h.width + 1)) rows in
    word_alone 2 (codes "PLAN") plan >>= λ _.
    rows_check h.height h.width 3 rows >>= λ _.
    word_alone (h.height + 3) (codes "END") end >>= λ _.
    in_text (end_check (h.height + 4) (after_line end)) >>= λ _.
    ends_check h sheet >>= λ _.
    Ok (record { heading = h; sheet = sheet })

-- a site text: at most 4,096 bytes, and then line by line
unfoldable pub site_of : List ℕ → Result SiteValue SiteFault
site_of t =
    cond (nat_lt 4096 (length t)) (Err fault.TooLong)
    (in_text (due_line 1 t) >>= λ first. site_heading first >>= λ h. site_under h (after_line t))

-- what holds of a site that is accepted: a floor of at most 512 cells, each passable or rock, its start passable and its goal a cell
pub record Accepted (h : Heading) (sheet : List ℕ) : Type 0 where
  pub known : heading_check h ≡ Ok (tt {0})
  pub small : h.width * h.height ≤ 512
  pub rows : length sheet ≡ h.height * (h.width + 1)
  pub cells : length (cells_of h.width h.height sheet) ≡ h.width * h.height
  pub marks : (c : ℕ) → c < h.width * h.height → is_mark (slice_index (cells_of h.width h.height sheet) c) ≡ true
  pub start : h.start < h.width * h.height
  pub passable : slice_index_or (cells_of h.width h.height sheet) h.start 0 ≡ 46
  pub goal : h.goal < h.width * h.height
