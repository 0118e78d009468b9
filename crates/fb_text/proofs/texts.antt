-- The texts of values, and the ends of what they are made of.
pub mod NamesAreUtf8
pub mod NothingBehindTheEnd
pub mod TextIsUtf8
pub mod WholeWhereEachUnionIsNamed
