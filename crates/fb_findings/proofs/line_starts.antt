pub mod PointIsLine
