-- kinds that stand in types; one level down to another kind; the shape of a matrix; types in a row; records cut out and copied
pub mod KindsFound
pub mod Downs
pub mod Matrices
pub mod TypeRows
pub mod Places
