pub mod ArgumentLemmas
pub mod ChoiceFits
pub mod ChoiceLemmas
pub mod CopyLemmas
pub mod DepthLemmas
pub mod Endings
pub mod Existence
pub mod Fitting
pub mod GrammarLemmas
pub mod LinkLemmas
pub mod ListLemmas
pub mod MemberFits
pub mod MemberLemmas
pub mod NormalChoices
pub mod NormalForms
pub mod NormalLinks
pub mod NormalLists
pub mod NormalMembers
pub mod NormalNth
pub mod NormalPieces
pub mod NormalPlaces
pub mod NormalRelatives
pub mod NormalSigns
pub mod NormalSimples
pub mod NthLemmas
pub mod PlaceLemmas
pub mod RefusalLemmas
pub mod SelectingLemmas
pub mod TableLemmas
pub mod TextForms
pub mod TextLists
pub mod TextPieces
pub mod ValueFits
pub mod ValueLemmas
pub mod WellMadeLemmas
mod WorkedChoices
mod WorkedRows
mod WorkedTokens
