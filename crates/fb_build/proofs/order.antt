pub mod AlignmentsDouble
pub mod LaidFieldsTakeTheirSizes
pub mod NextFieldIsNamed
