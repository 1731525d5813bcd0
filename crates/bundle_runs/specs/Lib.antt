pub mod Front
pub mod Fronts
pub mod Show
pub mod WrittenLines
pub mod Convert
pub mod Fragments
pub mod Answering
pub mod Laws
pub mod Keeping
pub mod ThereAndBack
-- what only ties code to these
pub mod Legal
pub mod Given
pub mod Taking
pub mod Telling
pub mod Checking
pub mod Coming
pub mod Showing
