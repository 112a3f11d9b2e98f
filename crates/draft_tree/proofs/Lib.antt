pub mod Marks
pub mod Climbs
pub mod RightTree
pub mod Told
