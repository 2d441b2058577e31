pub mod Forms
pub mod OneAnswer
pub mod OnePage
pub mod PageTexts
pub mod Plans
pub mod Said
