-- What Move, Place, Run and Locate answer, and when: the laws for whoever calls them.
pub mod Opened
pub mod Lists
pub mod Routes
pub mod Obeys
pub mod Locating
pub mod ByPlans
pub mod Letters
pub mod Answers
pub mod Ours
