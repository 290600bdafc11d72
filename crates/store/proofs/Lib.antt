pub mod AnswerLaws
pub mod CountLaws
pub mod HeldLaws
pub mod WalkLaws
