pub mod LineSpecimens
pub mod DecimalLaws
pub mod WriteLaws
pub mod LengthLaws
pub mod TextLaws
pub mod TextSpecimens
