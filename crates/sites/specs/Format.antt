-- The format of site texts: which bytes a site is written as, and which sites there are.
use Rattle.std.specs.Prelude.{◌≡◌, ℕ, zero, suc, ◌*◌, ◌<◌, ◌≤◌, true, List, [], ◌∷◌, ◌++◌, length, take, drop, Ok, codes, Result, slice_index, slice_index_or}
use Rattle.texts.specs.declared.heading.Heading.{Heading}
use Rattle.texts.specs.Fields.{written_line}
use Rattle.texts.specs.Headings.{heading_numbers, heading_check}
use Rattle.sites.specs.declared.fault.SiteFault.{SiteFault}
use Rattle.sites.specs.Site.{is_mark, cells_of, SiteValue}

-- a site: the numbers of its first line, and the sheet byte of each cell by its number
pub record Plan : Type 0 where
  pub heading : Heading
  pub cells : List ℕ

abbrev pub plan_of : SiteValue → Plan
plan_of s = record { heading = s.heading; cells = cells_of s.heading.width s.heading.height s.sheet }

-- the cells row by row, each row a line
abbrev pub rows_text : ℕ → ℕ → List ℕ → List ℕ
rows_text width zero cells = []
rows_text width (suc rows) cells = take width cells ++ 10 ∷ rows_text width rows (drop width cells)

-- the first line, `PLAN`, the rows of the sheet, `END`
unfoldable pub site_text : Plan → List ℕ
site_text p =
    written_line (codes "SITE") (heading_numbers p.heading)
    ++ (written_line (codes "PLAN") []
    ++ (rows_text p.heading.width p.heading.height p.cells
    ++ written_line (codes "END") []))

-- the bounds of a site: a floor of at most 512 cells, each passable or rock, its start passable and its goal a cell
pub record Bounded (p : Plan) : Type 0 where
  pub known : heading_check p.heading ≡ Ok (tt {0})
  pub small : p.heading.width * p.heading.height ≤ 512
  pub cells : length p.cells ≡ p.heading.width * p.heading.height
  pub marks : (c : ℕ) → c < p.heading.width * p.heading.height → is_mark (slice_index p.cells c) ≡ true
  pub start : p.heading.start < p.heading.width * p.heading.height
  pub passable : slice_index_or p.cells p.heading.start 0 ≡ 46
  pub goal : p.heading.goal < p.heading.width * p.heading.height

-- a text is accepted as a site exactly if it is the text of that site, and the site keeps the bounds; none of these texts has over 4,096 bytes
abbrev pub SiteLaw : List ℕ → Result Plan SiteFault → Type 0
SiteLaw t r = (p : Plan) → (r ≡ Ok p → (t ≡ site_text p) × Bounded p) × (t ≡ site_text p → Bounded p → r ≡ Ok p)
