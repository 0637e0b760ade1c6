-- What the loop over a name's digits keeps; a loop that replaces the samples of its buffer; a state seen another way; bands one after the other over a buffer are
-- the row over each sample.
pub mod Digits
pub mod Seen
pub mod InPlace
pub mod InRow
