-- What the contracts of the board cite.
pub mod Board
pub mod Around
