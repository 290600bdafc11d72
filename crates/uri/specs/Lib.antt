pub mod HeaderUri
pub mod SipUri
pub mod Steps
