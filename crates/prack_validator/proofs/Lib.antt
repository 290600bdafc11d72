pub mod AnswerLaws
pub mod History
pub mod OperationLaws
pub mod RepeatLaws
pub mod SettingLaws
