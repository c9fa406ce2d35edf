pub mod InPlace
pub mod OneRule
pub mod AllRules
pub mod Admitted
pub mod Next
pub mod Timed
pub mod ManyFlags
