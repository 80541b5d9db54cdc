-- What std prints of a number, what the items of an answer buffer show, and what the loops of the program keep.
pub mod DecimalLaws
pub mod ItemLaws
pub mod GoingLaws
